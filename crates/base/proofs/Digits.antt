-- Numbers and their bytes, there and back, at every length.
use Rattle.std.proofs.Common.{◌≡◌, ℕ, zero, suc, ◌+◌, ◌*◌, ◌/◌, ◌%◌, ◌^◌, ◌<◌, List, [], ◌∷◌, map, reverse, length, get_or, refl, ap, ◌∙◌, pow-suc, arith}
use native.Mathlib.Nat.{div-div-eq-div-mul}
use lib.Lanes.{number_l, digits_l}
use Rattle.std.specs.List.{range_with_len}
use Rattle.std.proofs.lemmas.List.FromFn.{fill_by_all}
use Rattle.base.specs.Bytes.{AllBytes, Block}
use Rattle.base.specs.Numbers.{number, bytes}

pub number_lt : (n : ℕ) (xs : List ℕ) → length xs ≡ n → AllBytes xs → number xs < 256 ^ n
unfolding number
number_lt zero [] l h = omega arith
number_lt zero (x ∷ xs) l h = absurd (omega arith)
number_lt (suc n) [] l h = absurd (omega arith)
number_lt (suc n) (x ∷ xs) l h =
    let p : number_l 256 xs < 256 ^ n = number_lt n xs (omega arith) (λ i. h (suc i)) in
    let q : x < 256 = h 0 in
    let e : 256 ^ suc n ≡ 256 ^ n * 256 = pow-suc 256 n in
    omega (arith, p, q, e)

pub bytes_number : (n : ℕ) (xs : List ℕ) → length xs ≡ n → AllBytes xs → bytes n (number xs) ≡ xs
unfolding number bytes
bytes_number zero [] l h = refl
bytes_number zero (x ∷ xs) l h = absurd (omega arith)
bytes_number (suc n) [] l h = absurd (omega arith)
bytes_number (suc n) (x ∷ xs) l h =
    let q : x < 256 = h 0 in
    let a : (x + 256 * number_l 256 xs) % 256 ≡ x = omega arith in
    let b : (x + 256 * number_l 256 xs) / 256 ≡ number_l 256 xs = omega arith in
    ap (λ (y : ℕ). y ∷ digits_l 256 n ((x + 256 * number_l 256 xs) / 256)) a
    ∙ ap (λ (y : ℕ). x ∷ digits_l 256 n y) b
    ∙ ap (λ (ys : List ℕ). x ∷ ys) (bytes_number n xs (omega arith) (λ i. h (suc i)))

pub number_bytes : (n x : ℕ) → x < 256 ^ n → number (bytes n x) ≡ x
unfolding number bytes
number_bytes zero x h = omega arith
number_bytes (suc n) x h =
    let e : 256 ^ suc n ≡ 256 ^ n * 256 = pow-suc 256 n in
    let r : number_l 256 (digits_l 256 n (x / 256)) ≡ x / 256 = number_bytes n (x / 256) (omega arith) in
    omega arith

pub bytes_long : (n x : ℕ) → length (bytes n x) ≡ n
unfolding bytes
bytes_long zero x = refl
bytes_long (suc n) x = ap suc (bytes_long n (x / 256))

pub bytes_fit : (n x : ℕ) → AllBytes (bytes n x)
unfolding bytes
bytes_fit zero x i = omega arith
bytes_fit (suc n) x zero = omega arith
bytes_fit (suc n) x (suc i) = bytes_fit n (x / 256) i

pub bytes_block : (x : ℕ) → Block (bytes 16 x)
bytes_block x = record { long = bytes_long 16 x; fit = bytes_fit 16 x }

-- ---- what the conversions of whole numbers give

-- a list by its elements
pub spelled_out : (n : ℕ) (xs : List ℕ) → length xs ≡ n → number xs ≡ number (map (λ k. get_or xs k 0) (range_with_len 0 n))
spelled_out n xs l = ap number (fill_by_all (λ k. get_or xs k 0) xs n 0 l (λ k h. refl))

pub from_le_64 : (xs : List ℕ) → length xs ≡ 8 → get_or xs 0 0 + get_or xs 1 0 * 256 + get_or xs 2 0 * 65536 + get_or xs 3 0 * 16777216 + get_or xs 4 0 * 4294967296 + get_or xs 5 0 * 1099511627776 + get_or xs 6 0 * 281474976710656 + get_or xs 7 0 * 72057594037927936 ≡ number xs
unfolding number
from_le_64 xs l = omega (arith, spelled_out 8 xs l)

pub from_le_128 : (xs : List ℕ) → length xs ≡ 16 → get_or xs 0 0 + get_or xs 1 0 * 256 + get_or xs 2 0 * 65536 + get_or xs 3 0 * 16777216 + get_or xs 4 0 * 4294967296 + get_or xs 5 0 * 1099511627776 + get_or xs 6 0 * 281474976710656 + get_or xs 7 0 * 72057594037927936 + get_or xs 8 0 * 18446744073709551616 + get_or xs 9 0 * 4722366482869645213696 + get_or xs 10 0 * 1208925819614629174706176 + get_or xs 11 0 * 309485009821345068724781056 + get_or xs 12 0 * 79228162514264337593543950336 + get_or xs 13 0 * 20282409603651670423947251286016 + get_or xs 14 0 * 5192296858534827628530496329220096 + get_or xs 15 0 * 1329227995784915872903807060280344576 ≡ number xs
unfolding number
from_le_128 xs l = omega (arith, spelled_out 16 xs l)

pub to_le_32 : (w : ℕ) → (w % 256) ∷ (w / 256 % 256) ∷ (w / 65536 % 256) ∷ (w / 16777216 % 256) ∷ [] ≡ bytes 4 w
unfolding bytes
to_le_32 w = simp div-div-eq-div-mul

pub to_le_64 : (w : ℕ) → (w % 256) ∷ (w / 256 % 256) ∷ (w / 65536 % 256) ∷ (w / 16777216 % 256) ∷ (w / 4294967296 % 256) ∷ (w / 1099511627776 % 256) ∷ (w / 281474976710656 % 256) ∷ (w / 72057594037927936 % 256) ∷ [] ≡ bytes 8 w
unfolding bytes
to_le_64 w = simp div-div-eq-div-mul

pub to_le_128 : (w : ℕ) → (w % 256) ∷ (w / 256 % 256) ∷ (w / 65536 % 256) ∷ (w / 16777216 % 256) ∷ (w / 4294967296 % 256) ∷ (w / 1099511627776 % 256) ∷ (w / 281474976710656 % 256) ∷ (w / 72057594037927936 % 256) ∷ (w / 18446744073709551616 % 256) ∷ (w / 4722366482869645213696 % 256) ∷ (w / 1208925819614629174706176 % 256) ∷ (w / 309485009821345068724781056 % 256) ∷ (w / 79228162514264337593543950336 % 256) ∷ (w / 20282409603651670423947251286016 % 256) ∷ (w / 5192296858534827628530496329220096 % 256) ∷ (w / 1329227995784915872903807060280344576 % 256) ∷ [] ≡ bytes 16 w
unfolding bytes
to_le_128 w = simp div-div-eq-div-mul

-- ---- highest byte first

pub from_be_128 : (xs : List ℕ) → length xs ≡ 16 → get_or xs 0 0 * 1329227995784915872903807060280344576 + get_or xs 1 0 * 5192296858534827628530496329220096 + get_or xs 2 0 * 20282409603651670423947251286016 + get_or xs 3 0 * 79228162514264337593543950336 + get_or xs 4 0 * 309485009821345068724781056 + get_or xs 5 0 * 1208925819614629174706176 + get_or xs 6 0 * 4722366482869645213696 + get_or xs 7 0 * 18446744073709551616 + get_or xs 8 0 * 72057594037927936 + get_or xs 9 0 * 281474976710656 + get_or xs 10 0 * 1099511627776 + get_or xs 11 0 * 4294967296 + get_or xs 12 0 * 16777216 + get_or xs 13 0 * 65536 + get_or xs 14 0 * 256 + get_or xs 15 0 ≡ number (reverse xs)
unfolding number
from_be_128 xs l = omega (arith, ap (λ (z : List ℕ). number (reverse z)) (fill_by_all (λ k. get_or xs k 0) xs 16 0 l (λ k h. refl)))

pub to_be_128 : (w : ℕ) → (w / 1329227995784915872903807060280344576 % 256) ∷ (w / 5192296858534827628530496329220096 % 256) ∷ (w / 20282409603651670423947251286016 % 256) ∷ (w / 79228162514264337593543950336 % 256) ∷ (w / 309485009821345068724781056 % 256) ∷ (w / 1208925819614629174706176 % 256) ∷ (w / 4722366482869645213696 % 256) ∷ (w / 18446744073709551616 % 256) ∷ (w / 72057594037927936 % 256) ∷ (w / 281474976710656 % 256) ∷ (w / 1099511627776 % 256) ∷ (w / 4294967296 % 256) ∷ (w / 16777216 % 256) ∷ (w / 65536 % 256) ∷ (w / 256 % 256) ∷ (w % 256) ∷ [] ≡ reverse (bytes 16 w)
unfolding bytes
to_be_128 w = simp div-div-eq-div-mul

-- ---- blocks as elements

pub block_lt : (b : List ℕ) → Block b → number b < 2 ^ 128
block_lt b k = number_lt 16 b k.long k.fit

pub block_again : (b : List ℕ) → Block b → bytes 16 (number b) ≡ b
block_again b k = bytes_number 16 b k.long k.fit

pub element_again : (x : ℕ) → x < 2 ^ 128 → number (bytes 16 x) ≡ x
element_again x h = number_bytes 16 x h
