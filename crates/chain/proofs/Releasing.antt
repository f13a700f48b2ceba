-- Giving back the cells of one chain, from its head on.
use Rattle.std.proofs.Common.{◌≡◌, ℕ, zero, suc, ◌+◌, ◌*◌, ◌<◌, ◌≤◌, List, [], ◌∷◌, length, get_or, take, drop, set, sym, refl, ap, ◌∙◌, subst, arith}
use Rattle.std.proofs.lemmas.List.{set-get_or, set-set, length-set, get_or-set_same, get_or-take, length-drop, length-take, length-take-le, nil_from_length, drop-set-lt}
use Rattle.base.specs.Bytes.{zeros}
use Rattle.chain.specs.Cells.{next_of, put_cell, chains_of, rows_of}
use Rattle.chain.specs.Memory.{LinkedIn, rows_in, other_chains, RowPut}
use Rattle.chain.proofs.Has.{Has, rows_are, has_pop, has_none, has_inside, pop_others}
use Rattle.chain.proofs.Linked.{has_linked, linked_has}

-- ---- heads and cells of memory

pub cells_size : (s c : ℕ) (b : List ℕ) → length b ≡ s + 32 * c → length (drop s b) ≡ c * 32
cells_size s c b e = omega (arith, length-drop s b)

pub heads_size : (s c : ℕ) (b : List ℕ) → length b ≡ s + 32 * c → length (take s b) ≡ s
heads_size s c b e = length-take-le s b (omega arith)

pub size_again : (s c : ℕ) (b b' : List ℕ) → length b ≡ s + 32 * c → take s b' ≡ take s b → length (drop s b') ≡ c * 32 → length b' ≡ s + 32 * c
size_again s c b b' e h l = omega (arith, ap (λ t. length t) h, length-take s b', heads_size s c b e, length-drop s b')

pub take_set_in : (s : ℕ) (b : List ℕ) (i x : ℕ) → i < s → take s (set b i x) ≡ set (take s b) i x
take_set_in zero b i x h = absurd (omega arith)
take_set_in (suc s) [] i x h = refl
take_set_in (suc s) (y ∷ b) zero x h = refl
take_set_in (suc s) (y ∷ b) (suc i) x h = ap (λ t. y ∷ t) (take_set_in s b i x (omega arith))

-- ---- the walk: the slot's chain begins at cur

pub record Releasing (s c slot cur : ℕ) (before now : List ℕ) : Type 0 where
  pub size : length now ≡ s + 32 * c
  pub has : Has c (drop s now) (set (take s now) slot cur) (rows_of c (drop s now) (set (take s now) slot cur))
  pub rows : set (rows_of c (drop s now) (set (take s now) slot cur)) slot [] ≡ set (rows_in s c before) slot []
  pub others : set (chains_of c (drop s now) (set (take s now) slot cur)) slot [] ≡ other_chains s c before slot

pub release_start : (s c slot cur : ℕ) (b : List ℕ) → length b ≡ s + 32 * c → LinkedIn s c b → slot < s → cur ≡ get_or b slot 0 → Releasing s c slot cur b b
release_start s c slot cur b size a h e =
    let hs : set (take s b) slot cur ≡ take s b = ap (set (take s b) slot) (e ∙ sym (get_or-take s b slot 0 h)) ∙ set-get_or (take s b) slot 0 in
    record {
      size = size;
      has = rw hs (has_linked c (drop s b) (take s b) (cells_size s c b size) a);
      rows = rw hs refl;
      others = rw hs refl;
    }

-- how many bytes are left on the chain
abbrev pub left : (s c slot cur : ℕ) (b : List ℕ) → ℕ
left s c slot cur b = length (get_or (rows_of c (drop s b) (set (take s b) slot cur)) slot [])

module _ (s c slot cur : ℕ) (before b : List ℕ) (h : slot < s) (a : Releasing s c slot cur before b) where
  abbrev cs : List ℕ
  cs = drop s b

  abbrev roots : List ℕ
  roots = set (take s b) slot cur

  abbrev rows : List (List ℕ)
  rows = rows_of c (drop s b) (set (take s b) slot cur)

  long : length (take s b) ≡ s
  long = heads_size s c b a.size

  at_root : get_or (set (take s b) slot cur) slot 0 ≡ cur
  at_root = get_or-set_same (take s b) slot cur 0 (omega (arith, long))

  root_in : slot < length (set (take s b) slot cur)
  root_in = omega (arith, length-set (take s b) slot cur, long)

  pub release_inside : 1 ≤ cur → cur ≤ c
  release_inside lo = (has_inside c cs roots rows a.has slot root_in cur at_root lo).0

  module _ (lo : 1 ≤ cur) (b' : List ℕ) (next : ℕ) (en : next ≡ next_of (drop s b) cur) (eh : take s b' ≡ take s b) (ec : drop s b' ≡ put_cell (drop s b) cur (zeros 32)) where
    roots-next : set (take s b') slot next ≡ set roots slot (next_of cs cur)
    roots-next = ap (λ t. set t slot next) eh ∙ ap (set (take s b) slot) en ∙ sym (set-set (take s b) slot cur (next_of cs cur))

    has-next : Has c (drop s b') (set (take s b') slot next) (set rows slot (drop 30 (get_or rows slot [])))
    has-next = rw (ec, roots-next) (has_pop c cs roots rows a.has slot root_in cur at_root lo)

    rows_next : rows_of c (drop s b') (set (take s b') slot next) ≡ set rows slot (drop 30 (get_or rows slot []))
    rows_next = rows_are c (drop s b') (set (take s b') slot next) (set rows slot (drop 30 (get_or rows slot []))) has-next

    pub release-step : Releasing s c slot next before b'
    release-step = record {
      size = size_again s c b b' a.size eh has-next.size;
      has = subst (λ t. Has c (drop s b') (set (take s b') slot next) t) (sym rows_next) has-next;
      rows = ap (λ t. set t slot []) rows_next ∙ set-set rows slot (drop 30 (get_or rows slot [])) [] ∙ a.rows;
      others = rw (ec, roots-next) (pop_others c cs roots rows a.has slot root_in cur at_root lo) ∙ a.others;
    }

    pub release-less : left s c slot next b' < left s c slot cur b
    release-less =
        let ir : slot < length rows = omega (arith, a.has.held, root_in) in
        let g : get_or (rows_of c (drop s b') (set (take s b') slot next)) slot [] ≡ drop 30 (get_or rows slot []) = ap (λ t. get_or t slot []) rows_next ∙ get_or-set_same rows slot (drop 30 (get_or rows slot [])) [] ir in
        omega (arith, ap (λ t. length t) g, length-drop 30 (get_or rows slot []), (has_inside c cs roots rows a.has slot root_in cur at_root lo).1)

  module _ (z : cur ≡ 0) where
    heads_end : take s (set b slot 0) ≡ set (take s b) slot cur
    heads_end = take_set_in s b slot 0 h ∙ ap (set (take s b) slot) (sym z)

    cells_end : drop s (set b slot 0) ≡ drop s b
    cells_end = drop-set-lt s b slot 0 h

    none : get_or rows slot [] ≡ []
    none = nil_from_length (get_or rows slot []) (has_none c cs roots rows a.has slot root_in (at_root ∙ z))

    rows_end : rows ≡ set (rows_in s c before) slot []
    rows_end = sym (ap (set rows slot) (sym none) ∙ set-get_or rows slot []) ∙ a.rows

    pub release-end : length before ≡ s + 32 * c → RowPut s c slot [] before (set b slot 0)
    release-end e = record {
      size = length-set b slot 0 ∙ a.size ∙ sym e;
      linked = rw (heads_end, cells_end) (linked_has c cs roots rows a.has);
      rows = rw (heads_end, cells_end) rows_end;
      others = rw (heads_end, cells_end) a.others;
    }
