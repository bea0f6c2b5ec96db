-- A range of runs moved in a loop, the first first to close up and the last first to open. What a pass keeps is said here for any range, so that
-- the loops over runs that move by themselves and over those that move in sixteens share it.
use Rattle.lists.proofs.Kit.{◌≡◌, refl, ◌∙◌, List, ℕ, suc, ◌+◌, ◌<◌, ◌≤◌, arith, length, get_or}
use Rattle.cameras.specs.Private.{RunsClosed, RunsOpened}
use Rattle.cameras.proofs.Runs.{RunClosed, RunOpened, closed_also, closed_more, opened_also, opened_more}

-- of the runs from low up to high, those before r have closed up
pub record Closing (low high n k r : ℕ) (xs ys : List ℕ) : Type 0 where
  pub from : low ≤ r
  pub upto : r ≤ high
  pub same : length ys ≡ length xs
  pub runs : RunsClosed low r n k xs ys

module _ {low high n k : ℕ} {xs : List ℕ} where
  pub closing : low ≤ high → Closing low high n k low xs xs
  closing l = record { from = omega arith; upto = l; same = refl; runs = λ _ c. c }

  pub closing_more : {r : ℕ} {ys zs : List ℕ} → k ≤ n → r < high → Closing low high n k r xs ys → RunClosed n k r ys zs → Closing low high n k (r + 1) xs zs
  closing_more inside l c s = record {
    from = omega (arith, c.from);
    upto = omega arith;
    same = s.same ∙ c.same;
    runs = λ ws d. closed_more inside (c.runs ws d) s;
  }

  pub closing_all : {r : ℕ} {ys : List ℕ} → r ≡ high → Closing low high n k r xs ys → RunsClosed low high n k xs ys
  closing_all e c ws d = closed_also e (c.runs ws d)

-- of the runs from low up to high, those from r on have opened
pub record Opening (low high n k r : ℕ) (column xs ys : List ℕ) : Type 0 where
  pub from : low ≤ r
  pub upto : r ≤ high
  pub same : length ys ≡ length xs
  pub runs : RunsOpened r high n k column xs ys

module _ {low high n k : ℕ} {column xs : List ℕ} where
  pub opening : low ≤ high → Opening low high n k high column xs xs
  opening l = record { from = l; upto = omega arith; same = refl; runs = λ _ _ _ o. o }

  pub opening_more : {r next : ℕ} {ys zs : List ℕ} → k ≤ n → low ≤ r → next ≡ suc r → Opening low high n k next column xs ys
      → RunOpened n k r (get_or column r 0) ys zs → Opening low high n k r column xs zs
  opening_more inside l e c s = record {
    from = l;
    upto = omega (arith, c.upto);
    same = s.same ∙ c.same;
    runs = λ frames ws f o. opened_more inside (c.runs frames ws f o) e (omega (arith, c.upto)) s;
  }

  pub opening_all : {r : ℕ} {ys : List ℕ} → r ≡ low → Opening low high n k r column xs ys → RunsOpened low high n k column xs ys
  opening_all e c frames ws f o = opened_also e (c.runs frames ws f o)
