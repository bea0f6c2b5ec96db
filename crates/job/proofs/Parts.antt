-- A chain on four axes that is lent the block's part of the words: of the five lengths of its shape the first four are read; what comes back is as long as what was lent, so that the part and what is past it can
-- be told apart afterwards.
use Rattle.lists.proofs.Kit.{◌≡◌, refl, sym, ap, ◌∙◌, subst₂, List, [], ◌∷◌, ◌++◌, ⊎_elim, ℕ, ◌≤◌, arith, length, get_or, take, drop, take_at, drop_at, take_all, length-take-le, eq-or-ne}
use Rattle.layout.specs.Layout.{volume}
use Rattle.checks.specs.Words.{capped}
use Rattle.checks.proofs.Capped.{capped_few}
use Rattle.axes.specs.declared.Answer.{Answer}
use Rattle.axes.specs.Promises.{ChainPromise}
use Rattle.job.specs.Private.{RunOn}

-- a list's first four entries, read one by one
pub first-four : (l : List ℕ) → 4 ≤ length l → get_or l 0 0 ∷ get_or l 1 0 ∷ get_or l 2 0 ∷ get_or l 3 0 ∷ [] ≡ take 4 l
first-four [] h = absurd (omega arith)
first-four (a ∷ []) h = absurd (omega arith)
first-four (a ∷ b ∷ []) h = absurd (omega arith)
first-four (a ∷ b ∷ c ∷ []) h = absurd (omega arith)
first-four (a ∷ b ∷ c ∷ d ∷ l) h = refl

-- four lengths are all that is read of them with a fifth
pub of_four : (l : List ℕ) → length l ≡ 4 → take 4 (get_or l 0 0 ∷ get_or l 1 0 ∷ get_or l 2 0 ∷ get_or l 3 0 ∷ 0 ∷ []) ≡ l
of_four l e = first-four l (omega arith) ∙ take_all 4 l (omega arith)

as_lent : {r : ℕ} {ds chain xs ss : List ℕ} {a : Answer} {ys ts : List ℕ} → ChainPromise r ds chain xs ss a ys ts → length ys ≡ length xs
as_lent {a = a} p =
    ⊎_elim
    (λ (e : a.number ≡ 0). (p.block.words e).same)
    (λ (n : a.number ≡ 0 → ⊥). ap length (p.block.kept n).0)
    (eq-or-ne a.number 0)

-- the block's part: its size, counted, is there and as long as it says
module _ (ds words : List ℕ) (few : volume ds ≤ 1048576) (enough : volume ds ≤ length words) {size : ℕ} (counted : size ≡ capped (volume ds)) where
  size_is : size ≡ volume ds
  size_is = counted ∙ capped_few (volume ds) few

  pub inside : size ≤ length words
  inside = rw size_is enough

  pub as_long : size ≡ length (take size words)
  as_long = sym (length-take-le size words inside)

  pub ran_on : {read : List ℕ} → read ≡ ds → {chain scratch : List ℕ} {a : Answer} {front scratch' : List ℕ} → ChainPromise 4 read chain (take size words) scratch a front scratch'
      → RunOn ds chain words scratch a (front ++ drop size words) scratch'
  ran_on four {chain} {scratch} {a} {front} {scratch'} q =
      let p : ChainPromise 4 ds chain (take size words) scratch a front scratch' = rw four at q in
      let long : length front ≡ volume ds = as_lent p ∙ sym as_long ∙ size_is in
      record {
        ran = subst₂ (λ (before after : List ℕ). ChainPromise 4 ds chain before scratch a after scratch')
            (ap (λ (k : ℕ). take k words) size_is)
            (sym (take_at front (drop size words) (volume ds) long))
            p;
        rest = drop_at front (drop size words) (volume ds) long ∙ ap (λ (k : ℕ). drop k words) size_is;
      }
