-- Heads and cells that are linked rightly lay out the rows that the walks find, and the other way round.
use Rattle.std.proofs.Common.{◌≡◌, ℕ, ◌*◌, ◌<◌, ◌≤◌, List, [], length, get_or, ap, ◌∙◌, arith}
use Rattle.std.proofs.lemmas.List.{length-map, get_or-map}
use Rattle.std.proofs.lemmas.List.Sums.{get_or-le-sum_by}
use Rattle.chain.specs.Cells.{chain_from, row_in, chains_of, rows_of, Linked}
use Rattle.chain.proofs.Walks.{plan_room}
use Rattle.chain.proofs.Has.{Has}
use Rattle.chain.proofs.Right.{right_lies, lies_right, walk_short}

pub rows_length : (c : ℕ) (cs heads : List ℕ) → length (rows_of c cs heads) ≡ length heads
rows_length c cs heads = length-map (chains_of c cs heads) (row_in cs) ∙ length-map heads (chain_from cs c)

pub chain_at : (c : ℕ) (cs heads : List ℕ) (i : ℕ) → i < length heads → get_or (chains_of c cs heads) i [] ≡ chain_from cs c (get_or heads i 0)
chain_at c cs heads i h = get_or-map (chain_from cs c) heads i 0 [] h

pub row_at : (c : ℕ) (cs heads : List ℕ) (i : ℕ) → i < length heads → get_or (rows_of c cs heads) i [] ≡ row_in cs (chain_from cs c (get_or heads i 0))
row_at c cs heads i h = get_or-map (row_in cs) (chains_of c cs heads) i [] [] (omega (arith, length-map heads (chain_from cs c))) ∙ ap (row_in cs) (chain_at c cs heads i h)

pub has_linked : (c : ℕ) (cs heads : List ℕ) → length cs ≡ c * 32 → Linked c cs heads → Has c cs heads (rows_of c cs heads)
has_linked c cs heads size a = record {
  size = size;
  lists = length-map heads (chain_from cs c);
  held = rows_length c cs heads;
  chains = λ i h. rw (chain_at c cs heads i h, row_at c cs heads i h) (right_lies c cs c (get_or heads i 0) (a.chains i h));
  once = a.once;
  free = a.clean;
}

pub linked_has : (c : ℕ) (cs heads : List ℕ) (rows : List (List ℕ)) → Has c cs heads rows → Linked c cs heads
linked_has c cs heads rows a = record {
  chains = λ i h.
      let le : length (get_or (chains_of c cs heads) i []) ≤ c = rw (chain_at c cs heads i h) (walk_short cs c (get_or heads i 0)) in
      lies_right c cs c (get_or heads i 0) (get_or (chains_of c cs heads) i []) (get_or rows i []) le (a.chains i h);
  once = a.once;
  clean = a.free;
}

-- a row takes no more cells than there are
pub row_short : (c : ℕ) (cs heads : List ℕ) (rows : List (List ℕ)) → Has c cs heads rows → (i : ℕ) → i < length heads → length (get_or rows i []) ≤ c * 30
row_short c cs heads rows a i h = omega (arith, (a.chains i h).count, get_or-le-sum_by (λ js. length js) (chains_of c cs heads) i [] (omega (arith, a.lists)), plan_room c cs heads (chains_of c cs heads) rows a)
