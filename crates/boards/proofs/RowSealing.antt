-- The mode's calls on a row of a slot.
use Rattle.std.proofs.Common.{◌≡◌, ℕ, ◌≤◌, List, [], length, IfOk, Ok, sym, ap, ◌∙◌, subst, arith, length-append}
use Rattle.base.specs.Refusals.{decided}
use Rattle.base.specs.Numbers.{bytes}
use Rattle.base.proofs.Digits.{bytes_long}
use Rattle.ciphers.specs.declared.cipher.BlockCipher.{Ghosts as Cipher}
use Rattle.mode.specs.Bundles.{sealed_under, opened_under}
use Rattle.mode.specs.Calls.{length_checks, if_accepted}
use Rattle.devices.specs.Answers.{Answer}
use Rattle.boards.specs.Contexts.{padded_label, context_of}
use Rattle.boards.specs.Modes.{sealed_row, opened_row}
use Rattle.boards.proofs.Labels.{padded_again}

accepted : (nonce ad m : ℕ) → nonce ≤ 1024 → ad ≤ 1024 → 16 ≤ m → m ≤ 1000 → decided {A = ℕ} (length_checks nonce ad m) (Ok 0) ≡ Ok 0
accepted nonce ad m hn ha h l = grind arith

nonce_long : (n : ℕ) (label : List ℕ) → length label ≡ 12 → length (context_of n label).nonce ≤ 1024
unfolding context_of
nonce_long n label h = omega (arith, length-append (bytes 4 n) (padded_label label), bytes_long 4 n, ap length (padded_again label h))

module _ {C : Type 0} (c : Cipher C) (bundle label nonce m out : List ℕ) (n : ℕ) (a : Answer) (is : nonce ≡ (context_of n label).nonce) (long : length label ≡ 12) (low : 16 ≤ length m) (high : length m ≤ 1000) (answer : a ≡ decided (length_checks (length nonce) 0 (length m)) (Ok 0)) where
  was_accepted : a ≡ Ok 0
  was_accepted = answer ∙ accepted (length nonce) 0 (length m) (let e = ap length is in omega (arith, nonce_long n label long)) (omega arith) low high

  pub row_sealed : out ≡ if_accepted a (sealed_under c.forward c.key_length bundle nonce [] m) m → out ≡ sealed_row c bundle label n m
  unfolding sealed_row context_of
  row_sealed e = e ∙ ap (λ (x : Answer). if_accepted x (sealed_under c.forward c.key_length bundle nonce [] m) m) was_accepted ∙ ap (λ (x : List ℕ). sealed_under c.forward c.key_length bundle x [] m) is

  pub row_back : IfOk a (λ _. opened_under c.forward c.back c.key_length bundle nonce [] out ≡ m) → opened_row c bundle label n out ≡ m
  unfolding opened_row context_of
  row_back h =
      let e = subst (λ (x : Answer). IfOk x (λ _. opened_under c.forward c.back c.key_length bundle nonce [] out ≡ m)) was_accepted h in
      ap (λ (x : List ℕ). opened_under c.forward c.back c.key_length bundle x [] out) (sym is) ∙ e

  pub row_opened : out ≡ if_accepted a (opened_under c.forward c.back c.key_length bundle nonce [] m) m → out ≡ opened_row c bundle label n m
  unfolding opened_row context_of
  row_opened e = e ∙ ap (λ (x : Answer). if_accepted x (opened_under c.forward c.back c.key_length bundle nonce [] m) m) was_accepted ∙ ap (λ (x : List ℕ). opened_under c.forward c.back c.key_length bundle x [] m) is
