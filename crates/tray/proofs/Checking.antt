-- Checking that every cell is well formed.
use Rattle.std.proofs.Common.{◌≡◌, ℕ, zero, suc, ◌+◌, ◌-◌, ◌*◌, ◌<◌, ◌≤◌, Bool, true, false, Option, Some, None, List, [], length, get_or, take, drop, sym, refl, ap, ◌∙◌, subst, inl, inr, arith}
use Rattle.std.proofs.lemmas.Bool.{eq-eqb, ne_eqb, le-leb, and_from, cases_Bool, both_ways}
use Rattle.std.proofs.lemmas.Nat.{le-div}
use Rattle.std.proofs.Math.Nat.{le_of_mul-le-mul_right}
use Rattle.std.specs.Bool.{MatchBool}
use Rattle.std.specs.Borrow.{Bor}
use Rattle.std.specs.Fn.{Mut, Called}
use Rattle.std.specs.Option.{IfSome, IsSomeAnd, option_map}
use Rattle.std.specs.List.{IsSubsliceAt}
use Rattle.std.specs.Iterator.Runs.{Run, ItemsMapToExactChunks, AllItems, AnyItem, CallKeepsClosure, AllItemsGive, AnyItemGives}
use Rattle.base.specs.Bytes.{all_zero}
use Rattle.tray.specs.Layout.{cell_length, cell_formed, cell_at, cells_formed}
use Rattle.tray.specs.Soundness.{cell_long, formed_at}

pub empty_formed : (m : ℕ) (cell : List ℕ) → cell_length cell ≡ 0 → cell_formed m cell ≡ all_zero (drop 2 cell)
empty_formed m cell e = rw (eq-eqb (cell_length cell) 0 e) refl

pub row_formed : (m : ℕ) (cell : List ℕ) → 16 ≤ cell_length cell → cell_length cell ≤ m → cell_formed m cell ≡ all_zero (drop (2 + cell_length cell) cell)
row_formed m cell low high =
    rw (ne_eqb (cell_length cell) 0 (λ e. omega arith), le-leb 16 (cell_length cell) low, le-leb (cell_length cell) m high) refl

-- one cell that is not well formed
pub not_formed : (s m : ℕ) (memory : List ℕ) (i : ℕ) → i < s → cell_formed m (cell_at m memory i) ≡ false → cells_formed s m memory ≡ false
not_formed s m memory i h e = elim (cases_Bool (cells_formed s m memory)) [
  | inl t ↦ absurd (both_ways (cell_formed m (cell_at m memory i)) e (formed_at s m memory t i h))
  | inr f ↦ f
]

-- where each cell is well formed, all are
pub all_formed : (n m : ℕ) (memory : List ℕ) → ((i : ℕ) → i < n → cell_formed m (cell_at m memory i) ≡ true) → cells_formed n m memory ≡ true
all_formed zero m memory f = refl
all_formed (suc n) m memory f =
    and_from (cells_formed n m memory) (cell_formed m (cell_at m memory n)) (all_formed n m memory (λ i h. f i (omega arith))) (f n (omega arith))

-- ---- a test of the memory's chunks, one after another

-- whether a chunk is a cell that is well formed
abbrev pub chunk_formed : List ℕ → Bool
chunk_formed cell = cell_formed (length cell - 2) cell

-- the item at a place where there is one
some_at : {A : Type 0} (o : Option A) (v : A) (P : A → Type 0) → option_map (λ y. y) o ≡ Some v → IfSome o P → P v
some_at None v P e h = let q : ◌≡◌ {A = ℕ} 0 1 = cc in absurd (omega arith)
some_at (Some x) v P e h = let q : x ≡ v = cc in subst P q h

this_at : {A : Type 0} (o : Option A) (v : A) (P : A → Type 0) → option_map (λ y. y) o ≡ Some v → IsSomeAnd o P → P v
this_at None v P e h = absurd h
this_at (Some x) v P e h = some_at (Some x) v P e h

module _ {S : Type 0} {steps : S → Option (Bor (List ℕ)) → S → Type 0} (p : Run steps) (s m n : ℕ) (memory xs : List ℕ) (l : length memory ≡ s * (2 + m)) (w : n ≡ 2 + m) (e : xs ≡ memory)
    (chunks : ItemsMapToExactChunks p (λ x. x.now) n xs) where
  size : length xs ≡ s * n
  size = ap length e ∙ l ∙ ap (λ (k : ℕ). s * k) (sym w)

  chunk : (i : ℕ) (x : Bor (List ℕ)) → x.now ≡ take n (drop (i * n) xs) → i < s → chunk_formed x.now ≡ cell_formed m (cell_at m memory i)
  chunk i x f h =
      let q : x.now ≡ cell_at m memory i = f ∙ ap (λ (k : ℕ). take k (drop (i * k) xs)) w ∙ ap (λ (t : List ℕ). take (2 + m) (drop (i * (2 + m)) t)) e in
      let k : length (cell_at m memory i) - 2 ≡ m = omega (arith, cell_long s m memory l i h) in
      ap chunk_formed q ∙ ap (λ (j : ℕ). cell_formed j (cell_at m memory i)) k

  item : ℕ → Bor (List ℕ)
  item i = get_or p.items i (record { ref_ptr = (0, 0); now = [] })

  there : (i : ℕ) → i < p.len → (item i).now ≡ take n (drop (i * n) xs)
  unfolding item
  there i h = (some_at (p.at i) (item i) (λ x. (length x.now ≡ n) × (i * n + n ≤ length xs) × IsSubsliceAt n xs (i * n) x.now) (p.reads i _ h) (chunks.2 i)).2.0

  every : p.whole ≡ true → (P : Bor (List ℕ) → Type 0) → AllItems p P → (i : ℕ) → i < s → (x : Bor (List ℕ)) × (x.now ≡ take n (drop (i * n) xs)) × P x
  unfolding item
  every whole P f i h =
      let k : i < p.len = omega (arith, chunks.1 whole, le-div s (length xs) n (omega arith) (omega (arith, size))) in
      (item i, there i k, some_at (p.at i) (item i) P (p.reads i _ k) (f i))

  some : (P : Bor (List ℕ) → Type 0) → AnyItem p P → (i : ℕ) × (i < s) × ((x : Bor (List ℕ)) × (x.now ≡ take n (drop (i * n) xs)) × P x)
  unfolding item
  some P f =
      let h : f.0 < p.len = f.1 in
      let k : p.len ≤ s = le_of_mul-le-mul_right {k = n} (omega (arith, chunks.0, size)) (omega arith) in
      (f.0, omega arith, (item f.0, there f.0 h, this_at (p.at f.0) (item f.0) P (p.reads f.0 _ h) f.2))

  module _ {F : Type 0} (g : Mut F (Bor (List ℕ) × Unit {0}) Bool) (f : F) (keeps : CallKeepsClosure g f) (says : (x : Bor (List ℕ)) (b : Bool) → Called g f (x, tt) b f → b ≡ chunk_formed x.now) where
    pub all_chunks : (r : Bool) → MatchBool r ((p.whole ≡ true) × AllItemsGive p g f true) (AnyItemGives p g f false) → r ≡ cells_formed s m memory
    all_chunks true a = sym (all_formed s m memory (λ i h. let t = every a.0 _ (a.1 keeps) i h in sym (chunk i t.0 t.1 h) ∙ sym (says t.0 true t.2)))
    all_chunks false a = let u = some _ (a keeps) in let t = u.2 in sym (not_formed s m memory u.0 u.1 (sym (chunk u.0 t.0 t.1 u.1) ∙ sym (says t.0 false t.2)))
