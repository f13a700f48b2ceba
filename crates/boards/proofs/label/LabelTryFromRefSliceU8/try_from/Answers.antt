use Rattle.boards.proofs.Labels.{copied_label}
use Rattle.boards.proofs.label.LabelTryFromRefSliceU8.try_from.Goals as goal

pub returns : goal.returns
returns c =
    let h = c.if-label-gt-LABEL_LIMIT.false in
    (h, copied_label c.args.label.now c.copy_from_slice.new.self c.copy_from_slice.ensures.after h)
