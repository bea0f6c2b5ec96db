-- Any two outcomes that the promise of choosing allows coincide: of the part that is handed back its readings, and where they stand in memory.
-- Because one exchange is the best of a run, and not both paths win.
use Rattle.lists.proofs.Kit.{◌≡◌, refl, sym, ap, ◌∙◌, subst, List, ⊎_elim, ℕ, ◌<◌, ◌*◌, arith, eq-or-ne}
use denote.Ref.{Bor}
use lib.IntN.{ℤ}
use Rattle.refusals.specs.FirstOf.{first_of}
use Rattle.desk.proofs.Ends.{of_le, of_lt}
use Rattle.desk.specs.Choice.{Best, FirstWins, SecondWins}
use Rattle.desk.specs.ChoiceConditions.{choose_checks}
use Rattle.desk.specs.Parts.{PartOf, SamePart}
use Rattle.desk.specs.ChoicePromises.{Four, ChoosePromise, ChooseNumberPromise}
use Rattle.desk.specs.ChoicePromises.Four.{of_first, of_second}

not-before : {run : List ℤ} {m j k : ℕ} → Best run m j → Best run m k → j < k → ⊥
not-before {j} {k} p q h = omega (arith, of_lt (q.earliest j h p.can), of_le (p.smallest k q.within q.can))

one_best : {run : List ℤ} {m j k : ℕ} → Best run m j → Best run m k → j ≡ k
one_best p q = omega (arith, not-before p q, not-before q p)

one_path : {X : Type 0} {first second : List ℤ} {j k : ℕ} → FirstWins first second j → SecondWins first second k → X
one_path {j} {k} p q =
    absurd (omega (arith, of_le (p.ahead k q.best.within q.best.can), of_lt (q.ahead j p.best.within p.best.can)))

one_part : {run r r' : Bor (List ℤ)} {k k' n : ℕ} → k ≡ k' → PartOf run k n r → PartOf run k' n r' → SamePart r r'
one_part {run} {r} {r'} {k} {k'} {n} e p q =
    let q' : PartOf run k n r' = subst (λ (m : ℕ). PartOf run m n r') (sym e) q in
    record { readings = p.readings ∙ sym q'.readings; block = p.block ∙ sym q'.block; place = p.place ∙ sym q'.place }

one_four : {first second r r' : Bor (List ℤ)} → Four first second r → Four first second r' → SamePart r r'
one_four (of_first j a p) (of_first k b q) = one_part (ap (λ (m : ℕ). 4 * m) (one_best a.best b.best)) p q
one_four (of_first j a p) (of_second k b q) = one_path a b
one_four (of_second j a p) (of_first k b q) = one_path b a
one_four (of_second j a p) (of_second k b q) = one_part (ap (λ (m : ℕ). 4 * m) (one_best a.best b.best)) p q

pub choose_once : {first second r r' : Bor (List ℤ)} → ChoosePromise first second r → ChoosePromise first second r' → SamePart r r'
choose_once {first} {second} p q =
    ⊎_elim (λ z. one_four (p.given z) (q.given z)) (λ n. one_part refl (p.refused n) (q.refused n))
    (eq-or-ne (first_of (choose_checks first.now second.now)) 0)

pub choose_number_once : (first second : List ℤ) {r r' : ℕ} → ChooseNumberPromise first second r → ChooseNumberPromise first second r' → r ≡ r'
choose_number_once first second p q = p ∙ sym q
