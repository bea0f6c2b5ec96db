-- Inverses by Euclid's algorithm: beside each of its two numbers goes one whose product with a leaves it modulo b, and a step
-- carries that on.
use Rattle.lists.proofs.Kit.{◌≡◌, sym, ap, ◌∙◌, ℕ, ◌+◌, ◌*◌, ◌-◌, ◌/◌, ◌%◌, ◌<◌, arith, mod-lt, mod-add-mod, div-add-mod', mul_assoc, mul_comm, add-mul, one-mul, add-mul-mod_self_right, le-mul_of_pos_right}
use Rattle.walks.proofs.Remainders.{add_same, times_same}

-- a part that two sums of one remainder share can be left out
shared_part : (s t p : ℕ) {b : ℕ} → 0 < b → (s + p) % b ≡ (t + p) % b → s % b ≡ t % b
shared_part s t p {b} h e =
    let low = le-mul_of_pos_right {m = b} p h in
    sym (add-mul-mod_self_right s p b)
    ∙ ap (λ (z : ℕ). z % b) (omega arith)
    ∙ add_same (p * b - p) (s + p) (t + p) b e
    ∙ ap (λ (z : ℕ). z % b) (omega arith)
    ∙ add-mul-mod_self_right t p b

-- v less k, modulo b
pub less : (v k : ℕ) {b : ℕ} → 0 < b → ((v + (b - k % b)) % b + k) % b ≡ v % b
less v k {b} h =
    let r = mod-lt k h in
    let e : v + (b - k % b) + k ≡ v + (k / b + 1) * b = omega (arith, div-add-mod' k b, add-mul (k / b) 1 b, one-mul b) in
    mod-add-mod (v + (b - k % b)) b k ∙ ap (λ (z : ℕ). z % b) e ∙ add-mul-mod_self_right v (k / b + 1) b

-- a step: y and x with v and u become x and y % x with u and w
pub inverse_step : (a x y u v w : ℕ) {b : ℕ} → 0 < b → v * a % b ≡ y % b → u * a % b ≡ x % b → (w + y / x * u) % b ≡ v % b → w * a % b ≡ y % x % b
inverse_step a x y u v w {b} h ey ex ew =
    let q = y / x in
    shared_part (w * a) (y % x) (q * x) h
    (add_same (w * a) (q * x) (q * (u * a)) b (sym (ap (λ (z : ℕ). z % b) (mul_comm q (u * a)) ∙ times_same q (u * a) x b ex ∙ ap (λ (z : ℕ). z % b) (mul_comm x q)))
    ∙ ap (λ (z : ℕ). z % b) (omega (arith, add-mul w (q * u) a, mul_assoc q u a))
    ∙ times_same a (w + q * u) v b ew
    ∙ ey
    ∙ ap (λ (z : ℕ). z % b) (omega (arith, div-add-mod' y x)))
