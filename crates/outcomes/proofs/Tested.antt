-- Facts seen by a computed test: a test, and that the fact holds where it passes. So a right outcome that a table gives is seen to be right.
use Rattle.lists.proofs.Kit.{◌≡◌, refl, sym, subst, Bool, true, false, not, ◌&&◌, ◌||◌, List, ℕ, ◌<◌, ◌≤◌, T, eqb, ltb, leb, T_not, eqb→eq, ltb→lt, lt-ltb, le-leb, eq-eqb, ne_eqb, same, both_left, both_right, below, at_number, same→eq, eq→same}

-- a fact with its test
pub record Tested (P : Type 0) : Type 0 where
  pub passes : Bool
  pub sound : T passes → P

-- two numbers, two lists are equal, or not
abbrev pub equal : (a b : ℕ) → Tested (a ≡ b)
equal a b = record { passes = eqb a b; sound = eqb→eq a b }

abbrev pub unequal : (a b : ℕ) → Tested (a ≡ b → ⊥)
unequal a b = record { passes = not (eqb a b); sound = λ t e. T_not (eqb a b) t (subst T (sym (eq-eqb a b e)) tt) }

abbrev pub alike : (xs ys : List ℕ) → Tested (xs ≡ ys)
alike xs ys = record { passes = same xs ys; sound = same→eq xs ys }

abbrev pub unlike : (xs ys : List ℕ) → Tested (xs ≡ ys → ⊥)
unlike xs ys = record { passes = not (same xs ys); sound = λ t e. T_not (same xs ys) t (eq→same xs ys e) }

-- a number is below another
abbrev pub less : (a b : ℕ) → Tested (a < b)
less a b = record { passes = ltb a b; sound = ltb→lt a b }

-- a test finds something
pub found : (t : Bool) → T t → t ≡ true
found true h = refl
found false h = absurd h

abbrev pub holds : (t : Bool) → Tested (t ≡ true)
holds t = record { passes = t; sound = found t }

module _ {P Q : Type 0} where
  -- both; and what follows
  abbrev pub also : Tested P → Tested Q → Tested (P × Q)
  also p q = record { passes = p.passes && q.passes; sound = λ t. (p.sound (both_left p.passes _ t), q.sound (both_right p.passes _ t)) }

  abbrev pub hence : Tested P → (P → Q) → Tested Q
  hence p f = record { passes = p.passes; sound = λ t. f (p.sound t) }

pub through : (a b : Bool) → T (not a || b) → a ≡ true → T b
through true b t e = t
through false b t e = absurd (subst T (sym e) tt)

pub past : (a b : Bool) → T (a || b) → a ≡ false → T b
past true b t e = absurd (subst T e tt)
past false b t e = t

module _ {P : Type 0} where
  -- where a test finds something; where a number is below another, at most that, the same, or another
  abbrev pub where_true : (t : Bool) → Tested P → Tested (t ≡ true → P)
  where_true t p = record { passes = not t || p.passes; sound = λ s e. p.sound (through t p.passes s e) }

  abbrev pub where_below : (a b : ℕ) → Tested P → Tested (a < b → P)
  where_below a b p = record { passes = not (ltb a b) || p.passes; sound = λ t h. p.sound (through (ltb a b) p.passes t (lt-ltb a b h)) }

  abbrev pub where_most : (a b : ℕ) → Tested P → Tested (a ≤ b → P)
  where_most a b p = record { passes = not (leb a b) || p.passes; sound = λ t h. p.sound (through (leb a b) p.passes t (le-leb a b h)) }

  abbrev pub where_equal : (a b : ℕ) → Tested P → Tested (a ≡ b → P)
  where_equal a b p = record { passes = not (eqb a b) || p.passes; sound = λ t h. p.sound (through (eqb a b) p.passes t (eq-eqb a b h)) }

  abbrev pub where_other : (a b : ℕ) → Tested P → Tested ((a ≡ b → ⊥) → P)
  where_other a b p = record { passes = eqb a b || p.passes; sound = λ t n. p.sound (past (eqb a b) p.passes t (ne_eqb a b n)) }

-- at every number below a bound
abbrev pub at_each : (n : ℕ) {P : ℕ → Type 0} → ((k : ℕ) → Tested (P k)) → Tested ((k : ℕ) → k < n → P k)
at_each n f = record { passes = below n (λ k. (f k).passes); sound = λ t k h. (f k).sound (at_number n (λ j. (f j).passes) t k h) }
