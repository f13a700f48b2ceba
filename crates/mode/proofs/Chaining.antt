-- CMAC's chain of blocks, cut and joined.
use Rattle.std.proofs.Common.{◌≡◌, ℕ, zero, suc, ◌+◌, ◌-◌, ◌*◌, ◌/◌, ◌%◌, ◌<◌, ◌≤◌, min, List, [], ◌∷◌, ◌++◌, length, take, drop, sym, refl, ap, ◌∙◌, inl, inr, arith, length-append}
use native.Mathlib.Nat.{div-div-eq-div-mul}
use Rattle.std.proofs.lemmas.List.{append_assoc, append-nil, drop_at, take_all, nil_from_length}
use Rattle.std.proofs.lemmas.Bool.{cases_lt}
use Rattle.std.specs.List.{flat_map}
use Rattle.base.specs.Bytes.{xor_front, zeros}
use Rattle.base.specs.Numbers.{bytes}
use Rattle.base.specs.Blocks.{block_at, zero_padded}
use Rattle.base.proofs.Strings.{front_zeros}
use Rattle.base.proofs.Cutting.{block_left, block_right, zero_padded_long}
use Rattle.mode.specs.Cmac.{chained, absorbed, last_masked, blocks_before, cmac_of}
use Rattle.mode.specs.Sealing.{length_group, binding_input}

module _ (f : List ℕ → List ℕ) where
  pub chained_none : (s m : List ℕ) → chained f s 0 m ≡ s
  unfolding chained
  chained_none s m = refl

  pub chained_more : (s : List ℕ) (n : ℕ) (m : List ℕ) → chained f s (n + 1) m ≡ f (xor_front (chained f s n m) (block_at n m))
  unfolding chained
  chained_more s n m = let e : n + 1 ≡ suc n = omega arith in ap (λ (k : ℕ). chained f s k m) e

  chained_same : (s : List ℕ) (n : ℕ) (m w : List ℕ) → ((i : ℕ) → i < n → block_at i m ≡ block_at i w) → chained f s n m ≡ chained f s n w
  unfolding chained
  chained_same s zero m w h = refl
  chained_same s (suc n) m w h =
      ap (λ (z : List ℕ). f (xor_front z (block_at n m))) (chained_same s n m w (λ i l. h i (omega arith))) ∙ ap (λ (z : List ℕ). f (xor_front (chained f s n w) z)) (h n (omega arith))

  -- one part of a joined string after the other
  chained_join : (s : List ℕ) (a b : ℕ) (xs ys : List ℕ) → length xs ≡ a * 16 → chained f s (a + b) (xs ++ ys) ≡ chained f (chained f s a xs) b ys
  unfolding chained
  chained_join s a zero xs ys e =
      let z : a + 0 ≡ a = omega arith in
      ap (λ (k : ℕ). chained f s k (xs ++ ys)) z ∙ chained_same s a (xs ++ ys) xs (block_left a xs ys (omega arith))
  chained_join s a (suc b) xs ys e =
      let z : a + suc b ≡ suc (a + b) = omega arith in
      ap (λ (k : ℕ). chained f s k (xs ++ ys)) z
      ∙ ap (λ (q : List ℕ). f (xor_front q (block_at (a + b) (xs ++ ys)))) (chained_join s a b xs ys e)
      ∙ ap (λ (q : List ℕ). f (xor_front (chained f (chained f s a xs) b ys) q)) (block_right a xs ys e b)

  -- ---- a whole string, sixteen bytes after sixteen bytes

  pub absorbed_none : (s t : List ℕ) → length t ≡ 0 → absorbed f s t ≡ s
  unfolding chained
  absorbed_none s [] e = refl
  absorbed_none s (x ∷ t) e = absurd (omega arith)

  -- one block
  chained_one : (s b : List ℕ) → chained f s 1 b ≡ f (xor_front s (take 16 b))
  unfolding chained
  chained_one s b = refl

  -- a string that is the last one, or a whole block and more
  absorbed_last : (s t : List ℕ) → 0 < length t → length t ≤ 16 → absorbed f s t ≡ f (xor_front s t)
  absorbed_last s t h l =
      let k : (length t + 15) / 16 ≡ 1 = omega arith in
      let z : List ℕ = zeros ((16 - length t % 16) % 16) in
      let w : length (t ++ z) ≤ 16 = omega (arith, zero_padded_long t) in
      ap (λ (j : ℕ). chained f s j (zero_padded t)) k ∙ chained_one s (t ++ z)
      ∙ ap (λ (q : List ℕ). f (xor_front s q)) (take_all 16 (t ++ z) w)
      ∙ ap f (front_zeros s t ((16 - length t % 16) % 16))

  absorbed_block : (s b t : List ℕ) → length b ≡ 16 → absorbed f s (b ++ t) ≡ absorbed f (f (xor_front s b)) t
  absorbed_block s b t h =
      let l : length (b ++ t) ≡ 16 + length t = length-append b t ∙ omega arith in
      let k : (length (b ++ t) + 15) / 16 ≡ 1 + (length t + 15) / 16 = omega arith in
      let r : (16 - length (b ++ t) % 16) % 16 ≡ (16 - length t % 16) % 16 = omega arith in
      ap (λ (j : ℕ). chained f s j (zero_padded (b ++ t))) k
      ∙ ap (chained f s (1 + (length t + 15) / 16)) (ap (λ (j : ℕ). (b ++ t) ++ zeros j) r ∙ append_assoc b t _)
      ∙ chained_join s 1 ((length t + 15) / 16) b (zero_padded t) h
      ∙ ap (λ (q : List ℕ). chained f q ((length t + 15) / 16) (zero_padded t)) (chained_one s b ∙ ap (λ (q : List ℕ). f (xor_front s q)) (take_all 16 b (omega arith)))

  pub absorbed_more : (s t b rest new : List ℕ) → new ≡ f (xor_front s b) → t ≡ b ++ rest → length b ≡ min 16 (length t) → 0 < length t → absorbed f new rest ≡ absorbed f s t
  absorbed_more s t b rest new i e h n =
      let l : length t ≡ length b + length rest = ap length e ∙ length-append b rest in
      ap (λ (z : List ℕ). absorbed f z rest) i ∙ elim (cases_lt (length b) 16) [
        | inl short ↦
            let none : rest ≡ [] = nil_from_length rest (omega arith) in
            absorbed_none (f (xor_front s b)) rest (omega arith) ∙ sym (absorbed_last s b (omega arith) (omega arith)) ∙ ap (absorbed f s) (sym (e ∙ ap (λ (z : List ℕ). b ++ z) none ∙ append-nil b))
        | inr whole ↦ sym (ap (absorbed f s) e ∙ absorbed_block s b rest (omega arith))
      ]

  -- n whole blocks
  pub absorbed_front : (s m front rest : List ℕ) (n : ℕ) → m ≡ front ++ rest → length front ≡ n * 16 → absorbed f s front ≡ chained f s n m
  absorbed_front s m front rest n e h =
      let k : (length front + 15) / 16 ≡ n = omega arith in
      ap (λ (j : ℕ). chained f s j (zero_padded front)) k
      ∙ chained_same s n (zero_padded front) front (block_left n front _ (omega arith))
      ∙ sym (ap (chained f s n) e ∙ chained_same s n (front ++ rest) front (block_left n front rest (omega arith)))

  -- ---- nonce, associated data and lengths

  lengths_long : (a b l : ℕ) → length (zero_padded (length_group a b l)) ≡ 16
  unfolding length_group bytes
  lengths_long a b l = refl

  pub cmac_bound : (nonce ad : List ℕ) (l : ℕ) →
      f (xor_front (absorbed f (absorbed f (zeros 16) nonce) ad) (last_masked f (zero_padded (length_group (length nonce) (length ad) l))))
      ≡ cmac_of f (binding_input nonce ad l)
  unfolding cmac_of binding_input
  cmac_bound nonce ad l =
      let A : List ℕ = zero_padded nonce in
      let B : List ℕ = zero_padded ad in
      let G : List ℕ = zero_padded (length_group (length nonce) (length ad) l) in
      let a : ℕ = (length nonce + 15) / 16 in
      let b : ℕ = (length ad + 15) / 16 in
      let M : List ℕ = A ++ (B ++ G) in
      let la : length A ≡ a * 16 = zero_padded_long nonce in
      let lb : length B ≡ b * 16 = zero_padded_long ad in
      let lg : length G ≡ 16 = lengths_long (length nonce) (length ad) l in
      let lm : length M ≡ (a + b) * 16 + 16 = length-append A (B ++ G) ∙ omega (arith, length-append B G, la, lb, lg) in
      let k : blocks_before M ≡ a + b = omega (arith, lm) in
      let ab : length (A ++ B) ≡ (a + b) * 16 = length-append A B ∙ omega (arith, la, lb) in
      let d : drop ((a + b) * 16) M ≡ G = ap (drop ((a + b) * 16)) (sym (append_assoc A B G)) ∙ drop_at (A ++ B) G ((a + b) * 16) ab in
      let c : chained f (zeros 16) (a + b) M ≡ chained f (chained f (zeros 16) a A) b B =
      chained_join (zeros 16) a b A (B ++ G) la ∙ chained_same (chained f (zeros 16) a A) b (B ++ G) B (block_left b B G (omega (arith, lb))) in
      sym (ap (λ (j : ℕ). f (xor_front (chained f (zeros 16) j M) (last_masked f (drop (j * 16) M)))) k
      ∙ ap (λ (z : List ℕ). f (xor_front z (last_masked f (drop ((a + b) * 16) M)))) c
      ∙ ap (λ (z : List ℕ). f (xor_front (chained f (chained f (zeros 16) a A) b B) (last_masked f z))) d)

-- ---- the lengths, four bytes each

pub four : (w : ℕ) (x : List ℕ) → x ≡ (w % 256) ∷ (w / 256 % 256) ∷ (w / 65536 % 256) ∷ (w / 16777216 % 256) ∷ [] → x ≡ bytes 4 w
unfolding bytes
four w x e = e ∙ simp div-div-eq-div-mul

pub parts_joined : (a b l : ℕ) (x y z : List ℕ) → x ≡ (a % 256) ∷ (a / 256 % 256) ∷ (a / 65536 % 256) ∷ (a / 16777216 % 256) ∷ [] → y ≡ (b % 256) ∷ (b / 256 % 256) ∷ (b / 65536 % 256) ∷ (b / 16777216 % 256) ∷ [] → z ≡ (l % 256) ∷ (l / 256 % 256) ∷ (l / 65536 % 256) ∷ (l / 16777216 % 256) ∷ [] →
    flat_map (λ part. part) (x ∷ y ∷ z ∷ zeros 4 ∷ []) ≡ zero_padded (length_group a b l)
unfolding length_group bytes
parts_joined a b l x y z ex ey ez =
    ap (λ (q : List ℕ). flat_map (λ part. part) (q ∷ y ∷ z ∷ zeros 4 ∷ [])) (four a x ex)
    ∙ ap (λ (q : List ℕ). flat_map (λ part. part) (bytes 4 a ∷ q ∷ z ∷ zeros 4 ∷ [])) (four b y ey)
    ∙ ap (λ (q : List ℕ). flat_map (λ part. part) (bytes 4 a ∷ bytes 4 b ∷ q ∷ zeros 4 ∷ [])) (four l z ez)
