-- `words_of` meets its contract: a product may be cut on the way, each time it is past the limit.
use Rattle.lists.proofs.Kit.{◌≡◌, sym, ap, ◌∙◌, List, [], ◌∷◌, ℕ, ◌*◌, ◌≤◌, mul_assoc, mul-one, one-mul, arith, rules}
use Rattle.std.specs.List.{fold}
use Rattle.layout.specs.Layout.{volume}
use Rattle.checks.specs.Words.{capped}
use Rattle.checks.proofs.Capped.{cut, capped_low, capped_times}
use Rattle.checks.proofs.words_of.Goals as goal

multiplied : (ds : List ℕ) (w : ℕ) → w ≤ 1048577 → fold (λ (v d : ℕ). capped (v * d)) w ds ≡ capped (w * volume ds)
unfolding volume
multiplied [] w h = sym (ap capped (mul-one w) ∙ capped_low w h)
multiplied (d ∷ ds) w h =
    multiplied ds (capped (w * d)) (cut (w * d)).least ∙ capped_times (w * d) (volume ds) ∙ ap capped (mul_assoc w d (volume ds))

pub returns : goal.returns
returns c =
    let product : c.fold.result ≡ fold (λ (v d : ℕ). capped (v * d)) 1 c.args.lens.now = search rules in
    product ∙ multiplied c.args.lens.now 1 (omega arith) ∙ ap capped (one-mul (volume c.args.lens.now))
