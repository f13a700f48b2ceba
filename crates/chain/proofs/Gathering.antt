-- Reading a row, cell by cell.
use Rattle.std.proofs.Common.{◌≡◌, ℕ, suc, ◌+◌, ◌*◌, ◌<◌, ◌≤◌, List, [], ◌∷◌, ◌++◌, length, get_or, take, drop, sym, ap, ◌∙◌, subst, ⊎_elim, arith}
use Rattle.std.proofs.lemmas.List.{length-drop, length-take, length-take-le, drop-drop, drop_all, take_all, take_at, take-take, drop-take, append_assoc, take-append-drop, get_or-take}
use Rattle.std.proofs.lemmas.Slice.{drop-append-drop}
use Rattle.std.proofs.lemmas.Bool.{cases_lt}
use Rattle.chain.specs.Cells.{used_of, next_of, piece_of}
use Rattle.chain.proofs.Laid.{layout, Lies}
use Rattle.chain.proofs.Has.{begins_with}
use Rattle.chain.proofs.Walks.{first_used, first_next, first_piece, other_cells}
use Rattle.chain.specs.Memory.{LinkedIn, chains_in, rows_in}
use Rattle.chain.proofs.Linked.{has_linked, rows_length, row_short}
use Rattle.chain.proofs.Releasing.{cells_size, heads_size}

-- the rest after the first piece, by how long the piece is
drop_piece : (x : List ℕ) → drop 30 x ≡ drop (length (take 30 x)) x
drop_piece x = ⊎_elim
    (λ h. drop_all 30 x (omega arith) ∙ sym (drop_all (length (take 30 x)) x (omega (arith, length-take 30 x))))
    (λ h. ap (λ n. drop n x) (sym (length-take-le 30 x h)))
    (cases_lt (length x) 30)

take_piece : (x : List ℕ) → take 30 x ≡ take (length (take 30 x)) x
take_piece x = ⊎_elim
    (λ h. take_all 30 x (omega arith) ∙ sym (take_all (length (take 30 x)) x (omega (arith, length-take 30 x))))
    (λ h. ap (λ n. take n x) (sym (length-take-le 30 x h)))
    (cases_lt (length x) 30)

-- one more piece of a row
more_piece : (r : List ℕ) (at n : ℕ) → take at r ++ take n (drop at r) ≡ take (at + n) r
more_piece r at n = sym (
    sym (take-append-drop at (take (at + n) r))
    ∙ ap (λ t. t ++ drop at (take (at + n) r)) (take-take at (at + n) r (omega arith))
    ∙ ap (λ t. take at r ++ t) (drop-take at n r))

pub record Turn (c : ℕ) (cs r b0 : List ℕ) (k at n : ℕ) : Type 0 where
  pub used : used_of cs k ≡ n
  pub low : 1 ≤ n
  pub high : n ≤ 30
  pub end : at + n ≤ length r
  pub inside : k ≤ c
  pub rest : (js : List ℕ) × Lies c cs (next_of cs k) js (drop (at + n) r)
  pub joined : (b b' : List ℕ) → at ≤ length b0 → b ≡ take at r ++ drop at b0 → b' ≡ take at b ++ (piece_of cs k ++ drop (at + n) b) → b' ≡ take (at + n) r ++ drop (at + n) b0

pub turn : (c : ℕ) (cs r b0 : List ℕ) (k at : ℕ) → 1 ≤ k → at ≤ length r → (js : List ℕ) → Lies c cs k js (drop at r) → Turn c cs r b0 k at (length (take 30 (drop at r)))
turn c cs r b0 k at lo le js a =
    let b = begins_with js k a.starts lo in
    let l : Lies c cs k (k ∷ b.0) (drop at r) = subst (λ t. Lies c cs k t (drop at r)) b.1 a in
    let x = drop at r in
    let n = length (take 30 x) in
    let ln = length-take 30 x in
    let lx = length-drop at r in
    let two : drop 30 x ≡ drop (at + n) r = drop_piece x ∙ drop-drop n at r in
    record {
      used = first_used cs k b.0 x l.cells;
      low = omega (arith, l.count);
      high = omega arith;
      end = omega arith;
      inside = (l.inside 0 (omega arith)).1;
      rest = (
        b.0,
        record {
          starts = sym (first_next cs k b.0 x l.cells);
          cells = other_cells cs k b.0 x l.cells ∙ ap (layout b.0) two;
          count = omega (arith, l.count, length-drop (at + n) r);
          inside = λ p q. l.inside (suc p) (omega arith);
        },
      );
      joined = λ bf bf' hb e f.
          let lt : length (take at r) ≡ at = length-take-le at r le in
          let t : take at bf ≡ take at r = ap (take at) e ∙ take_at (take at r) (drop at b0) at lt in
          let d : drop (at + n) bf ≡ drop (at + n) b0 = ap (drop (at + n)) e ∙ drop-append-drop at b0 (take at r) (at + n) (omega arith) lt in
          let p : piece_of cs k ≡ take n x = first_piece cs k b.0 x l.cells ∙ take_piece x in
          f ∙ rw (t, d, p) (sym (append_assoc (take at r) (take n x) (drop (at + n) b0)) ∙ ap (λ z. z ++ drop (at + n) b0) (more_piece r at n));
    }

pub gather_end : (c : ℕ) (cs r : List ℕ) (k at : ℕ) → k ≡ 0 → at ≤ length r → (js : List ℕ) → Lies c cs k js (drop at r) → at ≡ length r
gather_end c cs r k at z le [] a = omega (arith, a.count, length-drop at r)
gather_end c cs r k at z le (j ∷ js) a = absurd (omega (arith, (a.inside 0 (omega arith)).0, a.starts))

-- ---- of memory

pub rows_many : (s c : ℕ) (b : List ℕ) → length b ≡ s + 32 * c → length (rows_in s c b) ≡ s
rows_many s c b size = rows_length c (drop s b) (take s b) ∙ heads_size s c b size

pub turn_start : (s c slot : ℕ) (b : List ℕ) → length b ≡ s + 32 * c → LinkedIn s c b → slot < s →
    ((js : List ℕ) × Lies c (drop s b) (get_or b slot 0) js (drop 0 (get_or (rows_in s c b) slot []))) × (0 ≤ length (get_or (rows_in s c b) slot []))
turn_start s c slot b size a h =
    let e : get_or (take s b) slot 0 ≡ get_or b slot 0 = get_or-take s b slot 0 h in
    let l : Lies c (drop s b) (get_or (take s b) slot 0) (get_or (chains_in s c b) slot []) (get_or (rows_in s c b) slot []) = (has_linked c (drop s b) (take s b) (cells_size s c b size) a).chains slot (omega (arith, heads_size s c b size)) in
    ((get_or (chains_in s c b) slot [], subst (λ x. Lies c (drop s b) x (get_or (chains_in s c b) slot []) (get_or (rows_in s c b) slot [])) e l), omega arith)

pub gather_short : (s c slot : ℕ) (b : List ℕ) → length b ≡ s + 32 * c → LinkedIn s c b → slot < s → length (get_or (rows_in s c b) slot []) ≤ c * 30
gather_short s c slot b size a h = row_short c (drop s b) (take s b) (rows_in s c b) (has_linked c (drop s b) (take s b) (cells_size s c b size) a) slot (omega (arith, heads_size s c b size))
