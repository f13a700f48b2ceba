use Rattle.std.proofs.Common.{◌≡◌, ℕ, ◌≤◌, true, List, take, drop, sym, ◌∙◌, subst}
use Rattle.std.proofs.lemmas.Bool.{true≢false}
use Rattle.base.specs.Bytes.{zeros}
use Rattle.chain.specs.Cells.{cell, chains_of, times_on}
use Rattle.chain.specs.Memory.{HeadsFit}
use Rattle.chain.proofs.Following.{heads_formed, formed_checked}
use Rattle.chain.proofs.checking.well_formed.Goals as goal

pub returns-then-follow_all : goal.returns-then-follow_all
returns-then-follow_all c =
    let l = c.args.layout in
    let b = c.args.memory.now in
    let s = c.split_at.ensures in
    let hs = c.split_at.result.0.now in
    let cs = c.split_at.result.1.now in
    let t = c.if-follow_all.true in
    let met = c.follow_all.ensures.met t in
    let H : List ℕ → List ℕ → Type 0 = λ h d. HeadsFit l.longest l.cells d h in
    let Z : List ℕ → List ℕ → Type 0 = λ h d. (k : ℕ) → 1 ≤ k → k ≤ l.cells → times_on k (chains_of l.cells d h) ≡ 0 → cell d k ≡ zeros 32 in
    let over : (P : List ℕ → List ℕ → Type 0) → P hs cs → P (take l.slots b) (drop l.slots b) = λ P p. subst (λ d. P (take l.slots b) d) s.back (subst (λ h. P h cs) s.front p) in (
      (λ e. formed_checked l.slots l.longest l.cells b c.requires.size (over H (c.follow_all.ensures.fit.0 t)) (over Z (λ k lo hi z. c.rest_zero.ensures.0 e k lo hi (met k ∙ z)))),
      λ f. c.rest_zero.ensures.1 (λ k lo hi z. over (λ h d. (Z h d → cell cs k ≡ zeros 32)) (λ q. q k lo hi (sym (met k) ∙ z)) f.linked.clean),
    )

pub returns-else-follow_all : goal.returns-else-follow_all
returns-else-follow_all c =
    let l = c.args.layout in
    let b = c.args.memory.now in
    let s = c.split_at.ensures in
    let hs = c.split_at.result.0.now in
    let cs = c.split_at.result.1.now in
    let f : HeadsFit l.longest l.cells (drop l.slots b) (take l.slots b) → c.follow_all.result ≡ true = subst (λ d. (HeadsFit l.longest l.cells d (take l.slots b) → c.follow_all.result ≡ true)) s.back (subst (λ h. (HeadsFit l.longest l.cells cs h → c.follow_all.result ≡ true)) s.front c.follow_all.ensures.fit.1) in
    ((λ e. absurd (true≢false (sym e ∙ c.if-follow_all.false))), λ w. f (heads_formed l.slots l.longest l.cells b c.requires.size w))
