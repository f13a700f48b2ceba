use Rattle.std.proofs.Common.{◌≡◌, ◌-◌, ◌/◌, ◌%◌, [], ◌∷◌, ◌∙◌, length, sym, ap, rules, arith}
use Rattle.tray.specs.Layout.{cell_of, slot_with}
use Rattle.tray.proofs.Filling.{cell_filled}
use Rattle.tray.proofs.cells.fill_cell.Goals as goal

pub returns-in-Some : goal.returns-in-Some
returns-in-Some c =
    let n = length c.in-Some.row.now in
    let two : c.copy_from_slice.new.self ≡ n % 256 ∷ n / 256 ∷ [] = search rules in
    cell_filled c.args.cell.now c.in-Some.row.now c.copy_from_slice.new.self c.copy_from_slice-in-Some.new.self c.wipe-in-Some.new.s (n % 256) (n / 256) (length c.args.cell.now - 2)
    (omega (arith, c.requires.room)) (search rules) two (search rules) (search rules) (search rules)
    ∙ sym (ap (λ s. cell_of (length c.args.cell.now - 2) (slot_with s)) c.in-Some.is)
