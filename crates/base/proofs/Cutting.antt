-- A message is its blocks and its tail: cutting one that was assembled, and assembling one that was cut.
use Rattle.std.proofs.Common.{◌≡◌, ℕ, zero, suc, ◌+◌, ◌-◌, ◌*◌, ◌/◌, ◌%◌, ◌<◌, ◌≤◌, List, [], ◌∷◌, ◌++◌, length, get_or, take, drop, set, sym, refl, ap, ◌∙◌, inl, inr, arith, length-append, length-drop, length-take}
use Rattle.std.proofs.lemmas.List.{append_assoc, take_at, drop_at, drop-drop, take-append-drop, take-append-le, drop-append-le, set_at, drop-replicate}
use Rattle.std.proofs.lemmas.Bool.{cases_lt}
use Rattle.std.specs.Simd.{first_chunks}
use borrow.Rule.Slice.PartMut.{put_mid}
use Rattle.base.specs.Bytes.{AllBytes, Block, zeros}
use Rattle.base.specs.Blocks.{Message, block_at, last_index, tail_of, blocks_joined, assembled, with_block, zero_padded, ended_by}
use Rattle.base.proofs.Strings.{take_bytes, drop_bytes, append_bytes, cons_bytes, zeros_bytes, zeros_long}

-- ---- blocks joined

module _ (F : ℕ → List ℕ) where
  pub joined_more : (n : ℕ) → blocks_joined F (n + 1) ≡ blocks_joined F n ++ F n
  unfolding blocks_joined
  joined_more n = let e : n + 1 ≡ suc n = omega arith in ap (blocks_joined F) e

  pub joined_long : (n : ℕ) → ((i : ℕ) → i < n → length (F i) ≡ 16) → length (blocks_joined F n) ≡ n * 16
  unfolding blocks_joined
  joined_long zero h = refl
  joined_long (suc n) h = length-append (blocks_joined F n) (F n) ∙ omega (arith, joined_long n (λ i l. h i (omega arith)), h n (omega arith))

  pub joined_bytes : (n : ℕ) → ((i : ℕ) → i < n → AllBytes (F i)) → AllBytes (blocks_joined F n)
  unfolding blocks_joined
  joined_bytes zero h i = omega arith
  joined_bytes (suc n) h i = append_bytes (blocks_joined F n) (F n) (joined_bytes n (λ i l. h i (omega arith))) (h n (omega arith)) i

  pub joined_block : (n : ℕ) (t : List ℕ) → ((i : ℕ) → i < n → length (F i) ≡ 16) → (i : ℕ) → i < n → block_at i (blocks_joined F n ++ t) ≡ F i
  unfolding blocks_joined
  joined_block zero t h i l = absurd (omega arith)
  joined_block (suc n) t h i l =
      let a : (blocks_joined F n ++ F n) ++ t ≡ blocks_joined F n ++ (F n ++ t) = append_assoc (blocks_joined F n) (F n) t in
      let h' : (i : ℕ) → i < n → length (F i) ≡ 16 = λ j k. h j (omega arith) in
      ap (block_at i) a ∙ elim (cases_lt i n) [
        | inl k ↦ joined_block n (F n ++ t) h' i k
        | inr k ↦ (let e : i ≡ n = omega arith in
            ap (λ (j : ℕ). block_at j (blocks_joined F n ++ (F n ++ t))) e
            ∙ ap (take 16) (drop_at (blocks_joined F n) (F n ++ t) (n * 16) (joined_long n h'))
            ∙ take_at (F n) t 16 (h n (omega arith))
            ∙ ap F (sym e))
      ]

pub joined_same : (F G : ℕ → List ℕ) (n : ℕ) → ((i : ℕ) → i < n → F i ≡ G i) → blocks_joined F n ≡ blocks_joined G n
unfolding blocks_joined
joined_same F G zero h = refl
joined_same F G (suc n) h = ap (λ (z : List ℕ). z ++ F n) (joined_same F G n (λ i l. h i (omega arith))) ∙ ap (λ (z : List ℕ). blocks_joined G n ++ z) (h n (omega arith))

pub rebuilt : (m : List ℕ) (n : ℕ) → blocks_joined (λ i. block_at i m) n ++ drop (n * 16) m ≡ m
unfolding blocks_joined
rebuilt m zero = refl
rebuilt m (suc n) =
    let d : drop (suc n * 16) m ≡ drop 16 (drop (n * 16) m) = ap (λ (k : ℕ). drop k m) (omega arith) ∙ sym (drop-drop 16 (n * 16) m) in
    ap (λ (z : List ℕ). (blocks_joined (λ i. block_at i m) n ++ block_at n m) ++ z) d
    ∙ append_assoc (blocks_joined (λ i. block_at i m) n) (block_at n m) (drop 16 (drop (n * 16) m))
    ∙ ap (λ (z : List ℕ). blocks_joined (λ i. block_at i m) n ++ z) (take-append-drop 16 (drop (n * 16) m))
    ∙ rebuilt m n

-- ---- a assembled made, and what it is cut into

pub record Shaped (m : List ℕ) (F : ℕ → List ℕ) (n : ℕ) (l t : List ℕ) : Type 0 where
  pub size : length m ≡ n * 16 + 16 + length t
  pub count : last_index m ≡ n
  pub parts : (i : ℕ) → i < n → block_at i m ≡ F i
  pub last : block_at n m ≡ l
  pub rest : tail_of m ≡ t

module _ (F : ℕ → List ℕ) (n : ℕ) (l t : List ℕ) (hF : (i : ℕ) → i < n → length (F i) ≡ 16) (hl : length l ≡ 16) (ht : length t < 16) where
  made_long : length (assembled F n l t) ≡ n * 16 + 16 + length t
  made_long = length-append (blocks_joined F n) (l ++ t) ∙ omega (arith, length-append l t, joined_long F n hF)

  pub shaped : Shaped (assembled F n l t) F n l t
  shaped =
      let u : length (blocks_joined F n) ≡ n * 16 = joined_long F n hF in
      let s : length (assembled F n l t) ≡ n * 16 + 16 + length t = made_long in
      let k : length (assembled F n l t) / 16 * 16 ≡ n * 16 + 16 = omega arith in
      let d : drop (n * 16) (assembled F n l t) ≡ l ++ t = drop_at (blocks_joined F n) (l ++ t) (n * 16) u in
      record {
        size = s;
        count = omega arith;
        parts = λ i h. joined_block F n (l ++ t) hF i h;
        last = ap (take 16) d ∙ take_at l t 16 hl;
        rest = ap (λ (j : ℕ). drop j (assembled F n l t)) k ∙ sym (drop-drop 16 (n * 16) (assembled F n l t)) ∙ ap (drop 16) d ∙ drop_at l t 16 hl;
      }

-- what a assembled is cut into makes it again
module _ (m : List ℕ) (long : 16 ≤ length m) where
  pub block_long : (i : ℕ) → i ≤ last_index m → length (block_at i m) ≡ 16
  block_long i h = length-take 16 (drop (i * 16) m) ∙ simp length-drop (omega arith)

  pub tail_long : length (tail_of m) < 16
  tail_long = simp length-drop (omega arith)

  pub again : assembled (λ i. block_at i m) (last_index m) (block_at (last_index m) m) (tail_of m) ≡ m
  again =
      let k : length m / 16 * 16 ≡ last_index m * 16 + 16 = omega arith in
      let d : tail_of m ≡ drop 16 (drop (last_index m * 16) m) = ap (λ (j : ℕ). drop j m) k ∙ sym (drop-drop 16 (last_index m * 16) m) in
      ap (λ (z : List ℕ). blocks_joined (λ i. block_at i m) (last_index m) ++ (block_at (last_index m) m ++ z)) d
      ∙ ap (λ (z : List ℕ). blocks_joined (λ i. block_at i m) (last_index m) ++ z) (take-append-drop 16 (drop (last_index m * 16) m))
      ∙ rebuilt m (last_index m)

pub whole_size : (m : List ℕ) → 16 ≤ length m → length m ≡ last_index m * 16 + 16 + length (tail_of m)
whole_size m h =
    sym (ap length (again m h)) ∙ (shaped (λ i. block_at i m) (last_index m) (block_at (last_index m) m) (tail_of m) (λ i k. block_long m h i (omega arith)) (block_long m h (last_index m) (omega arith)) (tail_long m h)).size

-- a assembled with as many blocks and as long a tail is as long
pub same_size : (m : List ℕ) → 16 ≤ length m → (F : ℕ → List ℕ) (l t : List ℕ) → ((i : ℕ) → i < last_index m → length (F i) ≡ 16) → length l ≡ 16 → length t ≡ length (tail_of m) → length (assembled F (last_index m) l t) ≡ length m
same_size m h F l t hF hl ht =
    let k : length t < 16 = omega (arith, tail_long m h) in
    omega (arith, (shaped F (last_index m) l t hF hl k).size, whole_size m h)

pub block_block : (m : List ℕ) → Message m → (i : ℕ) → i ≤ last_index m → Block (block_at i m)
block_block m h i k = record { long = block_long m h.long i k; fit = take_bytes 16 (drop (i * 16) m) (drop_bytes (i * 16) m h.fit) }

pub tail_bytes : (m : List ℕ) → Message m → AllBytes (tail_of m)
tail_bytes m h = drop_bytes (length m / 16 * 16) m h.fit

-- a string with x behind it as a block
pub ended_block : (x : ℕ) (t : List ℕ) → x < 256 → length t < 16 → AllBytes t → Block (ended_by x t)
ended_block x t hx l h = record {
  long = length-append t (x ∷ zeros (15 - length t)) ∙ omega (arith, zeros_long (15 - length t));
  fit = append_bytes t (x ∷ zeros (15 - length t)) h (cons_bytes x (zeros (15 - length t)) hx (zeros_bytes (15 - length t)));
}

pub made_message : (F : ℕ → List ℕ) (n : ℕ) (l t : List ℕ) → ((i : ℕ) → i < n → Block (F i)) → Block l → length t < 16 → AllBytes t → Message (assembled F n l t)
made_message F n l t hF hl ht hb =
    let s : length (assembled F n l t) ≡ n * 16 + 16 + length t = (shaped F n l t (λ i h. (hF i h).long) hl.long ht).size in
    record {
      long = omega arith;
      fit = append_bytes (blocks_joined F n) (l ++ t) (joined_bytes F n (λ i h. (hF i h).fit)) (append_bytes l t hl.fit hb);
    }

-- ---- writing

-- what a write to the block i leaves
pub put_block : (i : ℕ) (m new b : List ℕ) → new ≡ b → put_mid (i * 16) (i * 16 + 16 - i * 16) m new ≡ with_block i b m
put_block i m new b e =
    ap (λ (z : List ℕ). put_mid (i * 16) (i * 16 + 16 - i * 16) m z) e
    ∙ ap (λ (z : List ℕ). take (i * 16) m ++ (b ++ z)) (drop-drop (i * 16 + 16 - i * 16) (i * 16) m ∙ ap (λ (k : ℕ). drop k m) (omega arith))

-- what writing a string and the byte x behind it into zeros leaves
pub ended_in : (x : ℕ) (out t new : List ℕ) → out ≡ zeros 16 → length t < 16 → new ≡ t → set (new ++ drop (length t) out) (length t) x ≡ ended_by x t
ended_in x out t new e h n =
    let k : 16 - length t ≡ suc (15 - length t) = omega arith in
    ap (λ (z : List ℕ). set (z ++ drop (length t) out) (length t) x) n
    ∙ ap (λ (z : List ℕ). set (t ++ z) (length t) x) (ap (drop (length t)) e ∙ drop-replicate (length t) 16 0 ∙ ap (λ (j : ℕ). zeros j) k)
    ∙ set_at t 0 (zeros (15 - length t)) x (length t) refl

-- a loop over the blocks: those below i are F's, and the others as they were
module _ (F : ℕ → List ℕ) (m msg : List ℕ) (i : ℕ) (hF : (j : ℕ) → j < i → length (F j) ≡ 16) (inv : msg ≡ blocks_joined F i ++ drop (i * 16) m) where
  pub done_take : take (i * 16) msg ≡ blocks_joined F i
  done_take = ap (take (i * 16)) inv ∙ take_at (blocks_joined F i) (drop (i * 16) m) (i * 16) (joined_long F i hF)

  pub done_drop : drop (i * 16) msg ≡ drop (i * 16) m
  done_drop = ap (drop (i * 16)) inv ∙ drop_at (blocks_joined F i) (drop (i * 16) m) (i * 16) (joined_long F i hF)

  pub done_block : block_at i msg ≡ block_at i m
  done_block = ap (take 16) done_drop

  done_past : drop (i * 16 + 16) msg ≡ drop ((i + 1) * 16) m
  done_past = sym (drop-drop 16 (i * 16) msg) ∙ ap (drop 16) done_drop ∙ drop-drop 16 (i * 16) m ∙ ap (λ (k : ℕ). drop k m) (omega arith)

  pub done_more : (b : List ℕ) → b ≡ F i → with_block i b msg ≡ blocks_joined F (i + 1) ++ drop ((i + 1) * 16) m
  done_more b e =
      ap (λ (z : List ℕ). z ++ (b ++ drop (i * 16 + 16) msg)) done_take
      ∙ ap (λ (z : List ℕ). blocks_joined F i ++ (z ++ drop (i * 16 + 16) msg)) e
      ∙ ap (λ (z : List ℕ). blocks_joined F i ++ (F i ++ z)) done_past
      ∙ sym (append_assoc (blocks_joined F i) (F i) (drop ((i + 1) * 16) m))
      ∙ ap (λ (z : List ℕ). z ++ drop ((i + 1) * 16) m) (sym (joined_more F i))

  -- and the last block written
  pub done_last : (b : List ℕ) → i ≡ last_index m → 16 ≤ length m → with_block i b msg ≡ assembled F i b (tail_of m)
  done_last b e h =
      ap (λ (z : List ℕ). z ++ (b ++ drop (i * 16 + 16) msg)) done_take
      ∙ ap (λ (z : List ℕ). blocks_joined F i ++ (b ++ z)) (done_past ∙ ap (λ (k : ℕ). drop k m) (omega arith))

-- the last block of a assembled written again
pub put_last : (F : ℕ → List ℕ) (n : ℕ) (l b t : List ℕ) → ((i : ℕ) → i < n → length (F i) ≡ 16) → length l ≡ 16 → with_block n b (assembled F n l t) ≡ assembled F n b t
put_last F n l b t hF hl =
    let u : length (blocks_joined F n) ≡ n * 16 = joined_long F n hF in
    ap (λ (z : List ℕ). z ++ (b ++ drop (n * 16 + 16) (assembled F n l t))) (take_at (blocks_joined F n) (l ++ t) (n * 16) u)
    ∙ ap (λ (z : List ℕ). blocks_joined F n ++ (b ++ z)) (sym (drop-drop 16 (n * 16) (assembled F n l t)) ∙ ap (drop 16) (drop_at (blocks_joined F n) (l ++ t) (n * 16) u) ∙ drop_at l t 16 hl)

-- ---- strings joined

-- a block of a joined string lies in its first part
pub block_left : (a : ℕ) (xs ys : List ℕ) → a * 16 ≤ length xs → (i : ℕ) → i < a → block_at i (xs ++ ys) ≡ block_at i xs
block_left a xs ys e i h =
    ap (take 16) (drop-append-le (i * 16) xs ys (omega arith)) ∙ take-append-le 16 (drop (i * 16) xs) ys (simp length-drop (omega arith))

-- or in its second
pub block_right : (a : ℕ) (xs ys : List ℕ) → length xs ≡ a * 16 → (i : ℕ) → block_at (a + i) (xs ++ ys) ≡ block_at i ys
block_right a xs ys e i =
    let k : (a + i) * 16 ≡ a * 16 + i * 16 = omega arith in
    ap (λ (j : ℕ). take 16 (drop j (xs ++ ys))) k ∙ ap (take 16) (sym (drop-drop (i * 16) (a * 16) (xs ++ ys)) ∙ ap (drop (i * 16)) (drop_at xs ys (a * 16) e))

pub zero_padded_long : (t : List ℕ) → length (zero_padded t) ≡ (length t + 15) / 16 * 16
zero_padded_long t = length-append t _ ∙ omega (arith, zeros_long ((16 - length t % 16) % 16))

-- ---- chunks

-- chunk i of n elements each
pub chunk_at : (n k : ℕ) (xs : List ℕ) (i : ℕ) → i < k → get_or (first_chunks n k xs) i [] ≡ take n (drop (n * i) xs)
chunk_at n zero xs i h = absurd (omega arith)
chunk_at n (suc k) xs zero h = let z : 0 ≡ n * 0 = omega arith in ap (λ (m : ℕ). take n (drop m xs)) z
chunk_at n (suc k) xs (suc i) h =
    let m : n + n * i ≡ n * suc i = omega arith in
    chunk_at n k (drop n xs) i (omega arith) ∙ ap (take n) (drop-drop (n * i) n xs ∙ ap (λ (j : ℕ). drop j xs) m)
