-- Enciphering and its undoing, each the other's inverse.
use Rattle.std.proofs.Common.{◌≡◌, ℕ, ◌<◌, List, [], ◌∷◌, ◌++◌, length, sym, refl, ap, ◌∙◌, subst, arith}
use Rattle.base.specs.Bytes.{Block, xor_front}
use Rattle.base.specs.Blocks.{Message, block_at, last_index, tail_of, blocks_joined, assembled}
use Rattle.base.proofs.Strings.{front_twice, front_long, front_bytes}
use Rattle.base.proofs.Cutting.{Shaped, shaped, tail_long, again, block_block, tail_bytes, made_message, joined_same, same_size}
use Rattle.mode.specs.Enciphering.{where_tail, enciphered, deciphered}
use Rattle.mode.specs.Laws.{Undoes}

where_front : (g : List ℕ → List ℕ) (l t ys : List ℕ) → where_tail g l (xor_front t ys) ≡ where_tail g l t
where_front g l [] ys = refl
where_front g l (x ∷ t) [] = refl
where_front g l (x ∷ t) (y ∷ ys) = refl

where_back : (f g : List ℕ → List ℕ) (l t : List ℕ) → g (f l) ≡ l → where_tail g (where_tail f l t) t ≡ l
where_back f g l [] e = refl
where_back f g l (x ∷ t) e = e

pub where_block : (f : List ℕ → List ℕ) (l t : List ℕ) → ((b : List ℕ) → Block b → Block (f b)) → Block l → Block (where_tail f l t)
where_block f l [] h k = k
where_block f l (x ∷ t) h k = h l k

-- two messages with the same cut
module _ (F G : ℕ → List ℕ) (n k : ℕ) (l j t u : List ℕ) where
  pub same_message : n ≡ k → ((i : ℕ) → i < k → F i ≡ G i) → l ≡ j → t ≡ u → assembled F n l t ≡ assembled G k j u
  same_message e h a b =
      ap (λ (x : ℕ). assembled F x l t) e ∙ ap (λ (z : List ℕ). z ++ (l ++ t)) (joined_same F G k h)
      ∙ ap (λ (z : List ℕ). blocks_joined G k ++ (z ++ t)) a ∙ ap (λ (z : List ℕ). blocks_joined G k ++ (j ++ z)) b

module _ (f g : List ℕ → List ℕ) (fg : Undoes f g) (m : List ℕ) (hm : Message m) where
  last_block : Block (block_at (last_index m) m)
  last_block = block_block m hm (last_index m) (omega arith)

  pub enciphered_message : Message (enciphered f m)
  unfolding enciphered
  enciphered_message =
      made_message (λ i. f (block_at i m)) (last_index m) _ _ (λ i h. fg.ahead (block_at i m) (block_block m hm i (omega arith)))
      (where_block f (f (block_at (last_index m) m)) (tail_of m) fg.ahead (fg.ahead (block_at (last_index m) m) last_block))
      (subst (λ (x : ℕ). x < 16) (sym (front_long (tail_of m) (f (block_at (last_index m) m)))) (tail_long m hm.long))
      (front_bytes (tail_of m) (f (block_at (last_index m) m)) (tail_bytes m hm) (fg.ahead (block_at (last_index m) m) last_block).fit)

  pub enciphered_long : length (enciphered f m) ≡ length m
  unfolding enciphered
  enciphered_long =
      same_size m hm.long (λ i. f (block_at i m)) _ _ (λ i h. (fg.ahead (block_at i m) (block_block m hm i (omega arith))).long)
      (where_block f (f (block_at (last_index m) m)) (tail_of m) fg.ahead (fg.ahead (block_at (last_index m) m) last_block)).long (front_long (tail_of m) (f (block_at (last_index m) m)))

  pub decipher_encipher : deciphered g (enciphered f m) ≡ m
  unfolding enciphered deciphered
  decipher_encipher =
      let l : List ℕ = f (block_at (last_index m) m) in
      let hl : Block l = fg.ahead (block_at (last_index m) m) last_block in
      let t : List ℕ = xor_front (tail_of m) l in
      let e : List ℕ = where_tail f l (tail_of m) in
      let c : List ℕ = assembled (λ i. f (block_at i m)) (last_index m) e t in
      let s : Shaped c (λ i. f (block_at i m)) (last_index m) e t =
      shaped (λ i. f (block_at i m)) (last_index m) e t (λ i h. (fg.ahead (block_at i m) (block_block m hm i (omega arith))).long)
      (where_block f l (tail_of m) fg.ahead hl).long (subst (λ (x : ℕ). x < 16) (sym (front_long (tail_of m) l)) (tail_long m hm.long)) in
      let u : where_tail g (block_at (last_index c) c) (tail_of c) ≡ l =
      ap (λ (j : ℕ). where_tail g (block_at j c) (tail_of c)) s.count ∙ ap (λ (z : List ℕ). where_tail g z (tail_of c)) s.last ∙ ap (where_tail g e) s.rest
      ∙ where_front g e (tail_of m) l ∙ where_back f g l (tail_of m) (fg.same l hl) in
      same_message _ _ _ _ _ _ _ _ s.count (λ i h. ap g (s.parts i h) ∙ fg.same (block_at i m) (block_block m hm i (omega arith)))
      (ap g u ∙ fg.same (block_at (last_index m) m) last_block)
      (ap (λ (z : List ℕ). xor_front (tail_of c) z) u ∙ ap (λ (z : List ℕ). xor_front z l) s.rest ∙ front_twice (tail_of m) l)
      ∙ again m hm.long

module _ (f g : List ℕ → List ℕ) (gf : Undoes g f) (m : List ℕ) (hm : Message m) where
  pub deciphered_message : Message (deciphered g m)
  unfolding deciphered
  deciphered_message =
      let u : Block (where_tail g (block_at (last_index m) m) (tail_of m)) = where_block g (block_at (last_index m) m) (tail_of m) gf.ahead (block_block m hm (last_index m) (omega arith)) in
      made_message (λ i. g (block_at i m)) (last_index m) _ _ (λ i h. gf.ahead (block_at i m) (block_block m hm i (omega arith)))
      (gf.ahead _ u)
      (subst (λ (x : ℕ). x < 16) (sym (front_long (tail_of m) (where_tail g (block_at (last_index m) m) (tail_of m)))) (tail_long m hm.long))
      (front_bytes (tail_of m) _ (tail_bytes m hm) u.fit)

  pub deciphered_long : length (deciphered g m) ≡ length m
  unfolding deciphered
  deciphered_long =
      let u : Block (where_tail g (block_at (last_index m) m) (tail_of m)) = where_block g (block_at (last_index m) m) (tail_of m) gf.ahead (block_block m hm (last_index m) (omega arith)) in
      same_size m hm.long (λ i. g (block_at i m)) _ _ (λ i h. (gf.ahead (block_at i m) (block_block m hm i (omega arith))).long) (gf.ahead _ u).long (front_long (tail_of m) _)

  pub encipher_decipher : enciphered f (deciphered g m) ≡ m
  unfolding enciphered deciphered
  encipher_decipher =
      let a : Block (block_at (last_index m) m) = block_block m hm (last_index m) (omega arith) in
      let u : List ℕ = where_tail g (block_at (last_index m) m) (tail_of m) in
      let hu : Block u = where_block g (block_at (last_index m) m) (tail_of m) gf.ahead a in
      let t : List ℕ = xor_front (tail_of m) u in
      let c : List ℕ = assembled (λ i. g (block_at i m)) (last_index m) (g u) t in
      let s : Shaped c (λ i. g (block_at i m)) (last_index m) (g u) t =
      shaped (λ i. g (block_at i m)) (last_index m) (g u) t (λ i h. (gf.ahead (block_at i m) (block_block m hm i (omega arith))).long)
      (gf.ahead u hu).long (subst (λ (x : ℕ). x < 16) (sym (front_long (tail_of m) u)) (tail_long m hm.long)) in
      let l : f (block_at (last_index c) c) ≡ u = ap (λ (j : ℕ). f (block_at j c)) s.count ∙ ap f s.last ∙ gf.same u hu in
      same_message _ _ _ _ _ _ _ _ s.count (λ i h. ap f (s.parts i h) ∙ gf.same (block_at i m) (block_block m hm i (omega arith)))
      (ap (λ (z : List ℕ). where_tail f z (tail_of c)) l ∙ ap (where_tail f u) s.rest ∙ where_front f u (tail_of m) u ∙ where_back g f (block_at (last_index m) m) (tail_of m) (gf.same (block_at (last_index m) m) a))
      (ap (λ (z : List ℕ). xor_front (tail_of c) z) l ∙ ap (λ (z : List ℕ). xor_front z u) s.rest ∙ front_twice (tail_of m) u)
      ∙ again m hm.long
