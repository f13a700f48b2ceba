-- The steps of enciphering in place, and of its undoing.
use Rattle.std.proofs.Common.{◌≡◌, ℕ, ◌+◌, ◌-◌, ◌*◌, ◌/◌, ◌%◌, ◌<◌, ◌≤◌, List, [], ◌∷◌, ◌++◌, length, take, drop, sym, refl, ap, ◌∙◌, subst, arith, length-append, length-drop}
use borrow.Rule.Slice.PartMut.{put_mid}
use Rattle.std.proofs.lemmas.List.{append_assoc, take_at, take_rest, drop-take}
use Rattle.base.specs.Bytes.{Block, xor_front}
use Rattle.base.specs.Blocks.{Message, block_at, last_index, tail_of, blocks_joined, assembled, with_block}
use Rattle.base.proofs.Strings.{front_long}
use Rattle.base.proofs.Cutting.{Shaped, shaped, block_long, tail_long, again, block_block, joined_more, joined_long, put_block, put_last, done_block, done_more}
use Rattle.mode.specs.Enciphering.{where_tail, enciphered, deciphered, all_through, tail_mixed}
use Rattle.mode.proofs.Ciphering.{same_message}

abbrev pub Keeps : (List ℕ → List ℕ) → Type 0
Keeps f = (b : List ℕ) → Block b → Block (f b)

tail_size : (m : List ℕ) → length (tail_of m) ≡ length m % 16
tail_size m = length-drop (length m / 16 * 16) m ∙ omega arith

where_none : (f : List ℕ → List ℕ) (l t : List ℕ) → length t ≡ 0 → where_tail f l t ≡ l
where_none f l [] e = refl
where_none f l (x ∷ t) e = absurd (omega arith)

where_some : (f : List ℕ → List ℕ) (l t : List ℕ) → 0 < length t → where_tail f l t ≡ f l
where_some f l [] e = absurd (omega arith)
where_some f l (x ∷ t) e = refl

front_empty : (t l : List ℕ) → length t ≡ 0 → t ≡ xor_front t l
front_empty [] l e = refl
front_empty (x ∷ t) l e = absurd (omega arith)

-- each whole block through f, with the last on its own
pub all_is : (f : List ℕ → List ℕ) (m : List ℕ) → 16 ≤ length m → all_through f m ≡ assembled (λ i. f (block_at i m)) (last_index m) (f (block_at (last_index m) m)) (tail_of m)
all_is f m h =
    let e : length m / 16 ≡ last_index m + 1 = omega arith in
    ap (λ (k : ℕ). blocks_joined (λ i. f (block_at i m)) k ++ tail_of m) e
    ∙ ap (λ (z : List ℕ). z ++ tail_of m) (joined_more (λ i. f (block_at i m)) (last_index m))
    ∙ append_assoc (blocks_joined (λ i. f (block_at i m)) (last_index m)) (f (block_at (last_index m) m)) (tail_of m)

-- the last whole block, read behind the others
pub last_read : (m : List ℕ) → 16 ≤ length m →
    take (length (take (length m / 16 * 16) m) - (length m / 16 * 16 - 16)) (drop (length m / 16 * 16 - 16) (take (length m / 16 * 16) m)) ≡ block_at (last_index m) m
last_read m h =
    let k : length m / 16 * 16 ≡ last_index m * 16 + 16 = omega arith in
    let n : last_index m * 16 + 16 - 16 ≡ last_index m * 16 = omega arith in
    take_rest (take (length m / 16 * 16) m) (length m / 16 * 16 - 16)
    ∙ ap (λ (j : ℕ). drop (j - 16) (take j m)) k
    ∙ ap (λ (j : ℕ). drop j (take (last_index m * 16 + 16) m)) n
    ∙ drop-take (last_index m * 16) 16 m

mixed_is : (m : List ℕ) (F : ℕ → List ℕ) (n : ℕ) (l t : List ℕ) → m ≡ assembled F n l t → ((i : ℕ) → i < n → length (F i) ≡ 16) → length l ≡ 16 → length t < 16 → tail_mixed m ≡ assembled F n l (xor_front t l)
mixed_is m F n l t e hF hl ht =
    let s : Shaped (assembled F n l t) F n l t = shaped F n l t hF hl ht in
    let k : length (assembled F n l t) / 16 * 16 ≡ n * 16 + 16 = omega (arith, s.size) in
    let u : length (blocks_joined F n ++ l) ≡ n * 16 + 16 = length-append (blocks_joined F n) l ∙ omega (arith, joined_long F n hF) in
    ap tail_mixed e
    ∙ ap (λ (j : ℕ). take j (assembled F n l t) ++ xor_front (tail_of (assembled F n l t)) (block_at (last_index (assembled F n l t)) (assembled F n l t))) k
    ∙ ap (λ (z : List ℕ). z ++ xor_front (tail_of (assembled F n l t)) (block_at (last_index (assembled F n l t)) (assembled F n l t)))
    (ap (take (n * 16 + 16)) (sym (append_assoc (blocks_joined F n) l t)) ∙ take_at (blocks_joined F n ++ l) t (n * 16 + 16) u)
    ∙ ap (λ (z : List ℕ). (blocks_joined F n ++ l) ++ xor_front z (block_at (last_index (assembled F n l t)) (assembled F n l t))) s.rest
    ∙ ap (λ (j : ℕ). (blocks_joined F n ++ l) ++ xor_front t (block_at j (assembled F n l t))) s.count
    ∙ ap (λ (z : List ℕ). (blocks_joined F n ++ l) ++ xor_front t z) s.last
    ∙ append_assoc (blocks_joined F n) l (xor_front t l)

last_is : (f : List ℕ → List ℕ) (m : List ℕ) (F : ℕ → List ℕ) (n : ℕ) (l t : List ℕ) → m ≡ assembled F n l t → ((i : ℕ) → i < n → length (F i) ≡ 16) → length l ≡ 16 → length t < 16 →
    with_block (last_index m) (f (block_at (last_index m) m)) m ≡ assembled F n (f l) t
last_is f m F n l t e hF hl ht =
    let s : Shaped (assembled F n l t) F n l t = shaped F n l t hF hl ht in
    ap (λ (z : List ℕ). with_block (last_index z) (f (block_at (last_index z) z)) z) e
    ∙ ap (λ (j : ℕ). with_block j (f (block_at j (assembled F n l t))) (assembled F n l t)) s.count
    ∙ ap (λ (z : List ℕ). with_block n (f z) (assembled F n l t)) s.last
    ∙ put_last F n l (f l) t hF hl

module _ (f : List ℕ → List ℕ) (hf : Keeps f) (m : List ℕ) (hm : Message m) where
  through_long : (i : ℕ) → i ≤ last_index m → length (f (block_at i m)) ≡ 16
  through_long i h = (hf (block_at i m) (block_block m hm i h)).long

  -- the loop over all blocks
  pub each_more : (i : ℕ) (msg new : List ℕ) → i < length m / 16 → msg ≡ blocks_joined (λ j. f (block_at j m)) i ++ drop (i * 16) m → new ≡ f (take (i * 16 + 16 - i * 16) (drop (i * 16) msg)) →
      put_mid (i * 16) (i * 16 + 16 - i * 16) msg new ≡ blocks_joined (λ j. f (block_at j m)) (i + 1) ++ drop ((i + 1) * 16) m
  each_more i msg new h inv e =
      let k : i * 16 + 16 - i * 16 ≡ 16 = omega arith in
      let l : (j : ℕ) → j < i → length (f (block_at j m)) ≡ 16 = λ j g. through_long j (omega arith) in
      put_block i msg new new refl
      ∙ done_more (λ j. f (block_at j m)) m msg i l inv new
      (e ∙ ap (λ (z : ℕ). f (take z (drop (i * 16) msg))) k ∙ ap f (done_block (λ j. f (block_at j m)) m msg i l inv))

  l_long : length (f (block_at (last_index m) m)) ≡ 16
  l_long = through_long (last_index m) (omega arith)

  F-long : (i : ℕ) → i < last_index m → length (f (block_at i m)) ≡ 16
  F-long i h = through_long i (omega arith)

  pub enc_empty : length m % 16 ≡ 0 → all_through f m ≡ enciphered f m
  unfolding enciphered
  enc_empty e =
      let z : length (tail_of m) ≡ 0 = tail_size m ∙ e in
      all_is f m hm.long
      ∙ ap (λ (l : List ℕ). assembled (λ i. f (block_at i m)) (last_index m) l (tail_of m)) (sym (where_none f (f (block_at (last_index m) m)) (tail_of m) z))
      ∙ ap (assembled (λ i. f (block_at i m)) (last_index m) (where_tail f (f (block_at (last_index m) m)) (tail_of m))) (front_empty (tail_of m) (f (block_at (last_index m) m)) z)

  pub enc_some : (a b c : List ℕ) → 0 < length m % 16 → a ≡ all_through f m → b ≡ tail_mixed a → c ≡ with_block (last_index b) (f (block_at (last_index b) b)) b → c ≡ enciphered f m
  unfolding enciphered
  enc_some a b c e ea eb ec =
      let z : 0 < length (tail_of m) = omega (arith, tail_size m) in
      let l : List ℕ = f (block_at (last_index m) m) in
      let a' : a ≡ assembled (λ i. f (block_at i m)) (last_index m) l (tail_of m) = ea ∙ all_is f m hm.long in
      let b' : b ≡ assembled (λ i. f (block_at i m)) (last_index m) l (xor_front (tail_of m) l) =
      eb ∙ mixed_is a (λ i. f (block_at i m)) (last_index m) l (tail_of m) a' F-long l_long (tail_long m hm.long) in
      let t : length (xor_front (tail_of m) l) < 16 = subst (λ (x : ℕ). x < 16) (sym (front_long (tail_of m) l)) (tail_long m hm.long) in
      ec ∙ last_is f b (λ i. f (block_at i m)) (last_index m) l (xor_front (tail_of m) l) b' F-long l_long t
      ∙ ap (λ (x : List ℕ). assembled (λ i. f (block_at i m)) (last_index m) x (xor_front (tail_of m) l)) (sym (where_some f l (tail_of m) z))

  pub dec_empty : length m % 16 ≡ 0 → all_through f m ≡ deciphered f m
  unfolding deciphered
  dec_empty e =
      let z : length (tail_of m) ≡ 0 = tail_size m ∙ e in
      all_is f m hm.long
      ∙ ap (λ (l : List ℕ). assembled (λ i. f (block_at i m)) (last_index m) (f l) (tail_of m)) (sym (where_none f (block_at (last_index m) m) (tail_of m) z))
      ∙ ap (assembled (λ i. f (block_at i m)) (last_index m) (f (where_tail f (block_at (last_index m) m) (tail_of m)))) (front_empty (tail_of m) (where_tail f (block_at (last_index m) m) (tail_of m)) z)

  pub dec_some : (a b c : List ℕ) → 0 < length m % 16 → a ≡ with_block (last_index m) (f (block_at (last_index m) m)) m → b ≡ tail_mixed a → c ≡ all_through f b → c ≡ deciphered f m
  unfolding deciphered
  dec_some a b c e ea eb ec =
      let z : 0 < length (tail_of m) = omega (arith, tail_size m) in
      let u : List ℕ = f (block_at (last_index m) m) in
      let P : ℕ → List ℕ = λ i. block_at i m in
      let hP : (i : ℕ) → i < last_index m → length (block_at i m) ≡ 16 = λ i h. block_long m hm.long i (omega arith) in
      let ht : length (tail_of m) < 16 = tail_long m hm.long in
      let a' : a ≡ assembled P (last_index m) u (tail_of m) =
      ea ∙ last_is f m P (last_index m) (block_at (last_index m) m) (tail_of m) (sym (again m hm.long)) hP (block_long m hm.long (last_index m) (omega arith)) ht in
      let b' : b ≡ assembled P (last_index m) u (xor_front (tail_of m) u) = eb ∙ mixed_is a P (last_index m) u (tail_of m) a' hP l_long ht in
      let t : length (xor_front (tail_of m) u) < 16 = subst (λ (x : ℕ). x < 16) (sym (front_long (tail_of m) u)) ht in
      let d : List ℕ = assembled P (last_index m) u (xor_front (tail_of m) u) in
      let s : Shaped d P (last_index m) u (xor_front (tail_of m) u) = shaped P (last_index m) u (xor_front (tail_of m) u) hP l_long t in
      let v : u ≡ where_tail f (block_at (last_index m) m) (tail_of m) = sym (where_some f (block_at (last_index m) m) (tail_of m) z) in
      ec ∙ ap (all_through f) b' ∙ all_is f d (omega (arith, s.size))
      ∙ same_message _ _ _ _ _ _ _ _ s.count (λ i h. ap f (s.parts i h))
      (ap (λ (j : ℕ). f (block_at j d)) s.count ∙ ap f (s.last ∙ v))
      (s.rest ∙ ap (xor_front (tail_of m)) v)
