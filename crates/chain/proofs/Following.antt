-- Following the chains: what is known at each cell, and what all of it says of memory.
use Rattle.std.proofs.Common.{◌≡◌, ℕ, ◌+◌, ◌-◌, ◌*◌, ◌<◌, ◌≤◌, List, [], ◌∷◌, length, get_or, take, drop, set, replicate, Bool, true, false, cond, ◌||◌, ◌↔◌, IsTrue, MatchBool, HoldsAt, sym, refl, ap, ◌∙◌, subst, ⊎_elim, arith}
use Rattle.std.proofs.lemmas.List.{length-map, get_or-map, get_or-set_same, get_or-set_other, get_or-replicate, get_or_past, length-replicate, take_all}
use Rattle.std.proofs.lemmas.List.Sums.{sum_by_more, sum_by-take-le}
use Rattle.std.proofs.lemmas.Bool.{cases_eq, cases_lt, true≢false, false≢true, or_parts}
use Rattle.std.proofs.lemmas.List.FromFn.{length-range_with_len, get_or-range_with_len}
use Rattle.std.specs.List.{range_with_len, AllWithin}
use Rattle.base.proofs.Zeros.{are_zeros, zeros_all}
use Rattle.chain.proofs.Parts.{part_length}
use Rattle.base.specs.Bytes.{AllBytes, all_zero, zeros}
use Rattle.base.proofs.Strings.{append_bytes, take_bytes, drop_bytes}
use Rattle.devices.specs.Slots.{nothing, RowFits}
use Rattle.chain.specs.Cells.{cell, next_of, used_of, RightCell, RightChain, chain_from, row_in, chains_of, times_in, times_on, times_met}
use Rattle.chain.specs.Memory.{slot_in, chain_held, rows_in, chain_shape, HeadFits, HeadsFit, WellFormed}
use Rattle.chain.proofs.Plans.{here, here_same, here_other}
use Rattle.chain.proofs.Right.{right_more, right_less, right_none, row_more, row_none, count_more, count_zero}
use Rattle.chain.proofs.Linked.{row_at, rows_length}
use Rattle.chain.proofs.Releasing.{heads_size}

-- ---- one chain, from head: at cell k, with `left` cells at most to come

pub record Following (c : ℕ) (cs : List ℕ) (head : ℕ) (before met : List Bool) (k at left : ℕ) : Type 0 where
  pub back : RightChain c cs left k → RightChain c cs c head
  pub on : RightChain c cs c head → RightChain c cs left k
  pub long : at + length (row_in cs (chain_from cs left k)) ≡ length (row_in cs (chain_from cs c head))
  pub most : at + left * 30 ≤ c * 30
  pub counted : (j : ℕ) → times_met met j + times_in j (chain_from cs left k) ≡ times_met before j + times_in j (chain_from cs c head)

pub follow_start : (c : ℕ) (cs : List ℕ) (head : ℕ) (met : List Bool) → Following c cs head met met head 0 c
follow_start c cs head met = record { back = λ r. r; on = λ r. r; long = omega arith; most = omega arith; counted = λ j. refl }

pub met_few : (met : List Bool) (k : ℕ) → times_met met k ≤ 1
met_few met k = elim (get_or met k false) as (λ b. cond b 1 0 ≤ 1) [ true ↦ omega arith | false ↦ omega arith ]

pub met_none : (met : List Bool) (k : ℕ) → get_or met k false ≡ false → times_met met k ≡ 0
met_none met k e = ap (λ b. cond b 1 0) e

pub met_one : (met : List Bool) (k : ℕ) → get_or met k false ≡ true → times_met met k ≡ 1
met_one met k e = ap (λ b. cond b 1 0) e

pub none_met : (met : List Bool) (k : ℕ) → times_met met k ≡ 0 → get_or met k false ≡ false
none_met met k = unlit (get_or met k false) where
  unlit : (b : Bool) → (let n : ℕ = cond b 1 0 in n ≡ 0) → b ≡ false
  unlit true z = absurd (omega arith)
  unlit false z = refl

module _ (c : ℕ) (cs : List ℕ) (head : ℕ) (before met : List Bool) (k at left : ℕ) (a : Following c cs head before met k at left) where
  module _ (lo : 1 ≤ k) where
    ne : k ≡ 0 → ⊥
    ne z = omega arith

    -- the three ways to stop
    pub follow-over : left ≡ 0 → RightChain c cs c head → ⊥
    follow-over z r = ne (subst (λ t. RightChain c cs t k) z (a.on r))

    pub follow-cell : 1 ≤ left → (RightCell c cs k → ⊥) → RightChain c cs c head → ⊥
    follow-cell p bad r = bad (right_more c cs left k p ne (a.on r)).0

    pub follow-met : 1 ≤ left → get_or met k false ≡ true → ((j : ℕ) → times_met before j + times_in j (chain_from cs c head) ≤ 1) → ⊥
    follow-met p s o = omega (arith, o k, a.counted k, count_more cs k left k p ne, here_same k, met_one met k s)

    pub follow-step : 1 ≤ left → RightCell c cs k → k < length met → get_or met k false ≡ false → (n next : ℕ) → n ≡ used_of cs k → next ≡ next_of cs k → Following c cs head before (set met k true) next (at + n) (left - 1)
    follow-step p g l z n next en ex =
        let m = row_more c cs left k p ne g in
        let w : length (row_in cs (chain_from cs (left - 1) next)) ≡ length (row_in cs (chain_from cs (left - 1) (next_of cs k))) = ap (λ t. length (row_in cs (chain_from cs (left - 1) t))) ex in
        record {
          back = λ r. a.back (right_less c cs left k p g (subst (λ t. RightChain c cs (left - 1) t) ex r));
          on = λ r. subst (λ t. RightChain c cs (left - 1) t) (sym ex) (right_more c cs left k p ne (a.on r)).1;
          long = omega (arith, a.long);
          most = omega (arith, a.most, g.most);
          counted = λ j.
              let q = count_more cs j left k p ne in
              let v : times_in j (chain_from cs (left - 1) next) ≡ times_in j (chain_from cs (left - 1) (next_of cs k)) = ap (λ t. times_in j (chain_from cs (left - 1) t)) ex in
              ⊎_elim
              (λ e. let x : times_met (set met k true) j ≡ 1 = rw e (met_one (set met k true) k (get_or-set_same met k true false l)) in
              let y : times_met met j ≡ 0 = rw e (met_none met k z) in
              let u : here j k ≡ 1 = rw e (here_same k) in
              omega (arith, a.counted j))
              (λ d. let x : times_met (set met k true) j ≡ times_met met j = ap (λ b. cond b 1 0) (get_or-set_other met k j true false d) in let u = here_other j k d in omega (arith, a.counted j))
              (cases_eq j k);
        }

  module _ (z : k ≡ 0) where
    pub follow-right : RightChain c cs c head
    follow-right = a.back (right_none c cs left k z)

    pub follow-long : at ≡ length (row_in cs (chain_from cs c head))
    follow-long = omega (arith, a.long, row_none cs left k z)

    pub follow-marks : (j : ℕ) → times_met met j ≡ times_met before j + times_in j (chain_from cs c head)
    follow-marks j = omega (arith, a.counted j, count_zero cs j left k z)

-- ---- the rows

row_bytes : (cs : List ℕ) → AllBytes cs → (ks : List ℕ) → AllBytes (row_in cs ks)
row_bytes cs h [] i = omega arith
row_bytes cs h (k ∷ ks) i = append_bytes (take (used_of cs k) (drop 2 (cell cs k))) (row_in cs ks)
    (take_bytes (used_of cs k) (drop 2 (cell cs k)) (drop_bytes 2 (cell cs k) (take_bytes 32 (drop ((k - 1) * 32) cs) (drop_bytes ((k - 1) * 32) cs h)))) (row_bytes cs h ks) i

pub right_row : (s m c : ℕ) (cs ks : List ℕ) → AllBytes cs → (0 < length (row_in cs ks) → (16 ≤ length (row_in cs ks)) × (length (row_in cs ks) ≤ m)) → RowFits (chain_shape s m c) (slot_in (row_in cs ks))
right_row s m c cs ks h l = fits (row_in cs ks) (row_bytes cs h ks) l where
  fits : (r : List ℕ) → AllBytes r → (0 < length r → (16 ≤ length r) × (length r ≤ m)) → RowFits (chain_shape s m c) (slot_in r)
  fits [] b q = tt
  fits (x ∷ r) b q = ((q (omega arith)).0, (q (omega arith)).1, b)

-- ---- all chains

pub record Followed (s m c : ℕ) (cs heads : List ℕ) (met : List Bool) (i : ℕ) : Type 0 where
  pub right : (j : ℕ) → j < i → HeadFits s m c cs (get_or heads j 0)
  pub counted : (k : ℕ) → times_met met k ≡ times_on k (take i (chains_of c cs heads))

none_at : (n k : ℕ) → get_or (replicate n false) k false ≡ false
none_at n k = ⊎_elim (λ l. get_or-replicate n k false false l) (λ l. get_or_past (replicate n false) k false (omega (arith, length-replicate {A = Bool} n false))) (cases_lt k n)

pub all_start : (s m c : ℕ) (cs heads : List ℕ) (met : List Bool) → met ≡ replicate 256 false → Followed s m c cs heads met 0
all_start s m c cs heads met e = record {
  right = λ j h. absurd (omega arith);
  counted = λ k. met_none met k (ap (λ t. get_or t k false) e ∙ none_at 256 k);
}

module _ (s m c : ℕ) (cs heads : List ℕ) (met : List Bool) (i : ℕ) (a : Followed s m c cs heads met i) (h : i < length heads) where
  -- one chain more
  more : (k : ℕ) → times_on k (take (i + 1) (chains_of c cs heads)) ≡ times_met met k + times_in k (chain_from cs c (get_or heads i 0))
  more k =
      let l = length-map heads (chain_from cs c) in
      let g = ap (times_in k) (get_or-map (chain_from cs c) heads i 0 [] h) in
      omega (arith, sum_by_more (times_in k) (chains_of c cs heads) i [] (omega arith), a.counted k)

  pub all_step : (met' : List Bool) → HeadFits s m c cs (get_or heads i 0) → ((k : ℕ) → times_met met' k ≡ times_met met k + times_in k (chain_from cs c (get_or heads i 0))) → Followed s m c cs heads met' (i + 1)
  all_step met' r e = record {
    right = λ j l. ⊎_elim (λ q. rw q r) (λ d. a.right j (omega (arith, d))) (cases_eq j i);
    counted = λ k. e k ∙ sym (more k);
  }

  pub all_once : ((k : ℕ) → times_on k (chains_of c cs heads) ≤ 1) → (k : ℕ) → times_met met k + times_in k (chain_from cs c (get_or heads i 0)) ≤ 1
  all_once o k = omega (arith, more k, sum_by-take-le (times_in k) (chains_of c cs heads) (i + 1), o k)

module _ (s m c : ℕ) (cs heads : List ℕ) (met : List Bool) (i : ℕ) (a : Followed s m c cs heads met i) (h : length heads ≤ i) where
  pub all_met : (k : ℕ) → times_met met k ≡ times_on k (chains_of c cs heads)
  all_met k = a.counted k ∙ ap (times_on k) (take_all i (chains_of c cs heads) (omega (arith, length-map heads (chain_from cs c))))

  pub all_few : (k : ℕ) → times_on k (chains_of c cs heads) ≤ 1
  all_few k = omega (arith, all_met k, met_few met k)

-- ---- memory

module _ (s m c : ℕ) (b : List ℕ) (size : length b ≡ s + 32 * c) where
  held_row : (i : ℕ) → i < s → get_or (chain_held s c b) i nothing ≡ slot_in (row_in (drop s b) (chain_from (drop s b) c (get_or (take s b) i 0)))
  held_row i l =
      let n = heads_size s c b size in
      get_or-map slot_in (rows_in s c b) i [] nothing (omega (arith, rows_length c (drop s b) (take s b))) ∙ ap slot_in (row_at c (drop s b) (take s b) i (omega arith))

  heads_long : length (take s b) ≡ s
  heads_long = heads_size s c b size

  pub formed_checked : HeadsFit m c (drop s b) (take s b) →
      ((k : ℕ) → 1 ≤ k → k ≤ c → times_on k (chains_of c (drop s b) (take s b)) ≡ 0 → cell (drop s b) k ≡ zeros 32) → WellFormed s m c b
  formed_checked f z = record {
    linked = record { chains = λ i l. (f.0 i l).0; once = f.1; clean = z };
    rows = λ i l.
        let r = (f.0 i (omega (arith, heads_long))).1 in
        rw (held_row i l) (subst (λ n. RowFits (chain_shape n m c) (slot_in (row_in (drop s b) (chain_from (drop s b) c (get_or (take s b) i 0))))) heads_long r);
  }

  pub heads_formed : WellFormed s m c b → HeadsFit m c (drop s b) (take s b)
  heads_formed f = (
    (λ i l.
        let q : i < s = omega (arith, heads_long) in
        let x = slot_in (row_in (drop s b) (chain_from (drop s b) c (get_or (take s b) i 0))) in
        (f.linked.chains i l, subst (λ n. RowFits (chain_shape n m c) x) (sym heads_long) (subst (λ t. RowFits (chain_shape s m c) t) (held_row i q) (f.rows i q)))),
    f.linked.once,
  )

-- ---- the cells that were not met

-- a cell was met or is zero
abbrev pub met_or_zero : List ℕ → List Bool → ℕ → Bool
met_or_zero b m k = get_or m k false || all_zero (cell b k)

rest_right : (c : ℕ) (b : List ℕ) (m : List Bool) → length b ≡ c * 32 → AllWithin (λ k. met_or_zero b m k ≡ true) (range_with_len 1 c) 0 (length (range_with_len 1 c)) → (k : ℕ) → 1 ≤ k → k ≤ c → times_met m k ≡ 0 → cell b k ≡ zeros 32
rest_right c b m size h k lo hi z =
    let n = length-range_with_len 1 c in
    let g : get_or (range_with_len 1 c) (k - 1) 0 ≡ k = get_or-range_with_len 1 c (k - 1) 0 (omega arith) ∙ omega arith in
    let e : met_or_zero b m k ≡ true = subst (λ t. met_or_zero b m t ≡ true) g (h (k - 1) 0 (omega arith) (omega arith)) in
    let f : all_zero (cell b k) ≡ true = subst (λ t. (t || all_zero (cell b k)) ≡ true) (none_met m k z) e in
    are_zeros (cell b k) f ∙ ap zeros (part_length 32 c b size (k - 1) (omega arith))

rest_wrong : (c : ℕ) (b : List ℕ) (m : List Bool) → length b ≡ c * 32 → (j : ℕ) → j < length (range_with_len 1 c) → HoldsAt (λ k. met_or_zero b m k ≡ false) (range_with_len 1 c) j → ((k : ℕ) → 1 ≤ k → k ≤ c → times_met m k ≡ 0 → cell b k ≡ zeros 32) → ⊥
rest_wrong c b m size j lt h f =
    let n = length-range_with_len 1 c in
    let k : ℕ = 1 + j in
    let g : get_or (range_with_len 1 c) j 0 ≡ k = get_or-range_with_len 1 c j 0 (omega arith) in
    let e : met_or_zero b m k ≡ false = subst (λ t. met_or_zero b m t ≡ false) g (h 0) in
    let p = or_parts (get_or m k false) (all_zero (cell b k)) e in
    let z : cell b k ≡ zeros 32 = f k (omega arith) (omega arith) (met_none m k p.0) in
    true≢false (sym (zeros_all (cell b k) (z ∙ ap zeros (sym (part_length 32 c b size (k - 1) (omega arith))))) ∙ p.1)

pub rest_checked : (c : ℕ) (b : List ℕ) (m : List Bool) → length b ≡ c * 32 → (r : Bool) →
    MatchBool r (AllWithin (λ k. met_or_zero b m k ≡ true) (range_with_len 1 c) 0 (length (range_with_len 1 c))) ((k : ℕ) × (k < length (range_with_len 1 c)) × HoldsAt (λ k. met_or_zero b m k ≡ false) (range_with_len 1 c) k) →
    IsTrue r ↔ ((k : ℕ) → 1 ≤ k → k ≤ c → times_met m k ≡ 0 → cell b k ≡ zeros 32)
rest_checked c b m size true h = ((λ _. rest_right c b m size h), λ _. refl)
rest_checked c b m size false h = ((λ e. absurd (false≢true e)), λ f. absurd (rest_wrong c b m size h.0 h.1 h.2 f))
