-- Wrong versions as tables. A row names a version, CALL/VERSION, and says what it leaves or answers on one small entry; one computed test over a table shows
-- that the promise refutes every row of it, and names those that it does not. docs/PROMISES.md cites rows by their names.
use Rattle.lists.proofs.Kit.{◌≡◌, sym, ap, subst, ◌∙◌, Bool, true, false, cond, not, ◌&&◌, List, [], ◌∷◌, Memᴰ-not_nil, Memᴰ-cases_cons, ⊎_elim, ℕ, arith, T, eqb, T_not, eqb_refl, eqb→eq, length, same, both_left, both_right, eq→same}
use Prim.Native.String.{String}
use Rattle.refusals.specs.FirstOf.{Check, first_of}
use Rattle.refusals.specs.Conditions.{some}
use Rattle.outcomes.specs.Wrong.{Case, Row, Refutes, Refuted}
use Rattle.outcomes.specs.Wrong.Row.{wrong, gives, late, refuses}

-- two numbers that are said to be equal, and are not
pub other_number : {a b : ℕ} → a ≡ b → T (not (eqb a b)) → ⊥
other_number {a} {b} e n = T_not (eqb a b) n (subst (λ (x : ℕ). T (eqb a x)) e (eqb_refl a))

-- two lists
pub other_list : {xs ys : List ℕ} → xs ≡ ys → T (not (same xs ys)) → ⊥
other_list {xs} {ys} e n = T_not (same xs ys) n (eq→same xs ys e)

-- the condition of a number holds
abbrev pub holds : ℕ → List Check → Bool
holds k cs = some (λ d. eqb d.number k && d.holds) cs

module _ {O : Type 0} where
  abbrev pub name : Row O → String
  name (wrong n c part leaves) = n
  name (gives n c k) = n
  name (late n c k due) = n
  name (refuses n c) = n

  -- The right outcome is seen to be right. What the version leaves is something else, as long as what is right there, so that it can be left. The number that it
  -- gives is another; of two numbers in the wrong order both conditions hold, and the one that is due is the first. Where it refuses, the right number is 0.
  abbrev pub test : Row O → Bool
  test (wrong n c part leaves) = c.seen && (not (same leaves (part c.right)) && eqb (length leaves) (length (part c.right)))
  test (gives n c k) = c.seen && not (eqb k (c.number c.right))
  test (late n c k due) =
      c.seen
      && (not (eqb k (c.number c.right))
      && (eqb due (c.number c.right) && (eqb due (first_of c.checks) && (holds k c.checks && holds due c.checks))))
  test (refuses n c) = c.seen && eqb (c.number c.right) 0

  -- another number than that of the only outcome
  other : (c : Case O) (k : ℕ) → T c.seen → T (not (eqb k (c.number c.right))) → (o : O) → c.Promise o → c.number o ≡ k → ⊥
  other c k seen t o p e = other_number (sym e ∙ ap c.number (c.only seen o p)) t

  pub refutes : (r : Row O) → T (test r) → Refutes r
  refutes (wrong n c part leaves) t = λ o p e.
      other_list (sym e ∙ ap part (c.only (both_left c.seen _ t) o p)) (both_left (not (same leaves (part c.right))) _ (both_right c.seen _ t))
  refutes (gives n c k) t = other c k (both_left c.seen _ t) (both_right c.seen _ t)
  refutes (late n c k due) t = other c k (both_left c.seen _ t) (both_left (not (eqb k (c.number c.right))) _ (both_right c.seen _ t))
  refutes (refuses n c) t = λ o p n. n (ap c.number (c.only (both_left c.seen _ t) o p) ∙ eqb→eq (c.number c.right) 0 (both_right c.seen _ t))

  -- the names of the rows at which the test fails
  abbrev pub failing : List (Row O) → List String
  failing [] = []
  failing (r ∷ rs) = cond (test r) (failing rs) (name r ∷ failing rs)

  pub refuted : (rows : List (Row O)) → failing rows ≡ [] → Refuted rows
  refuted [] e r m = absurd (Memᴰ-not_nil m)
  refuted (x ∷ rows) e r m =
      let (t, none) = first (test x) (name x) (failing rows) e in
      ⊎_elim (λ (same : r ≡ x). refutes r (subst (λ (y : Row O). T (test y)) (sym same) t)) (λ m'. refuted rows none r m') (Memᴰ-cases_cons m)
    where
      first : (t : Bool) (n : String) (ns : List String) → cond t ns (n ∷ ns) ≡ [] → T t × (ns ≡ [])
      first true n ns e = (tt, e)
      first false n ns e = absurd (omega (arith, ap length e))
