-- Turns one after the other bring every block back exactly when the power leaves 1.
use Rattle.lists.proofs.Kit.{◌≡◌, refl, sym, ap, ◌∙◌, subst, List, ◌↔◌, ⊎_elim, ℕ, zero, suc, ◌*◌, ◌-◌, ◌%◌, ◌^◌, ◌<◌, ◌≤◌, ◌∣◌, min, mod-one, mul-one, pow-zero, pow-suc, dvd-mul_right, eq-one_of_dvd-one, eq-zero-or-pos, arith, length, get_or, tab, lt-or-ge, length-tab, get_or-tab}
use Rattle.flat.specs.Turn.{turned}
use Rattle.flat.proofs.Turn.{turned_is}
use Rattle.cycles.specs.Orbit.{iter}
use Rattle.cycles.specs.Sent.{Carried, goes}
use Rattle.cycles.specs.Turns.{Turns, BlockOf, BringBack, LeavesOne}
use Rattle.cycles.specs.Turns.Turns.{none, more}
use Rattle.cycles.proofs.Orbit.{iter_within}
use Rattle.cycles.proofs.Goes.{goes_permutes}
use Rattle.cycles.proofs.Sent.{turn_iff, carried_home}
use Rattle.cycles.proofs.Powers.{all_home, leaves_one}

-- h turns take each word where the map, applied h times, takes its offset
pub turns_carry : {h m n : ℕ} {xs ys : List ℕ} → Turns h m n xs ys → Carried (m * n - 1) (iter (goes m n) h) xs ys
unfolding iter
turns_carry none = record { same = refl; sent = λ x l. refl; stays = λ k l. refl }
turns_carry (more {h = h} {m = m} {n = n} {ys = ys} {zs = zs} ts t) =
    let c = turns_carry ts in
    let d = (turn_iff m n ys zs).0 t in
    record {
      same = d.same ∙ c.same;
      sent = λ x l. d.sent (iter (goes m n) h x) (iter_within (goes_permutes m n) h x l) ∙ c.sent x l;
      stays = λ k l. d.stays k l ∙ c.stays k l;
    }

-- every buffer that has the block can be turned h times
pub turns_are : (h m n : ℕ) (xs : List ℕ) → m * n ≤ length xs → (ys : List ℕ) × Turns h m n xs ys
turns_are zero m n xs fits = (xs, none)
turns_are (suc h) m n xs fits =
    let (ys, ts) = turns_are h m n xs fits in
    (turned m n ys, more ts (turned_is m n ys (omega (arith, (turns_carry ts).same))))

-- the block in which offset k holds the lesser of k and 2 is back only if offset 1, the only one with a 1, is home
offset_home : (h m n : ℕ) → 3 ≤ m * n → BringBack h m n → iter (goes m n) h 1 ≡ 1
offset_home h m n b back =
    let xs = tab (m * n) (λ k. min k 2) in
    let at : (k : ℕ) → k < m * n → get_or xs k 0 ≡ min k 2 = λ k g. get_or-tab (m * n) (λ k. min k 2) k 0 g in
    let block : BlockOf m n xs = record { exact = length-tab (m * n) (λ k. min k 2); words = λ k g. rw (at k g) (omega arith) } in
    let ts = turns_are h m n xs (omega (arith, block.exact)) in
    let l : 1 < m * n - 1 = omega arith in
    let x = iter (goes m n) h 1 in
    let home : min x 2 ≡ 1 =
    sym (at x (omega (arith, iter_within (goes_permutes m n) h 1 l)))
    ∙ ap (λ (zs : List ℕ). get_or zs x 0) (sym (back xs ts.0 block ts.1))
    ∙ (turns_carry ts.1).sent 1 l
    ∙ at 1 (omega arith)
    in
    omega arith

one-pow : (h : ℕ) → 1 ^ h ≡ 1
one-pow zero = pow-zero 1
one-pow (suc h) = pow-suc 1 h ∙ mul-one (1 ^ h) ∙ one-pow h

-- modulo 0, where mn is 1, and modulo 1 every power of m leaves 1
pub small_leaves : (h m n : ℕ) → 0 < m * n → m * n ≤ 2 → LeavesOne h m n
small_leaves h m n p b =
    ⊎_elim
    (λ e.
    let one : m ≡ 1 = eq-one_of_dvd-one (subst (λ (z : ℕ). m ∣ z) (omega arith) (dvd-mul_right m n)) in
    ap (λ (z : ℕ). z % (m * n - 1)) (ap (λ (z : ℕ). z ^ h) one ∙ one-pow h))
    (λ e. let one : m * n - 1 ≡ 1 = omega arith in rw one (mod-one (m ^ h)))
    (eq-zero-or-pos (m * n - 1))

-- h turns bring every block of m by n words back exactly when m to the power h leaves 1 modulo mn − 1
pub back_iff : (h m n : ℕ) → 0 < m * n → BringBack h m n ↔ LeavesOne h m n
back_iff h m n p = (there, λ e xs ys block ts. carried_home (turns_carry ts) (all_home h m n e))
  where
    there : BringBack h m n → LeavesOne h m n
    there back =
        ⊎_elim (λ b. leaves_one h m n b (offset_home h m n b back)) (λ b. small_leaves h m n p b) (lt-or-ge 2 (m * n))
