use Rattle.lists.proofs.Kit.{◌≡◌, ◌≤◌, mul-le-mul, arith}
use Rattle.home.proofs.Powers.{starts, goes_on, ends_at, within}
use Rattle.home.proofs.count_of.Goals as goal

pub loop-power-init : goal.loop-power-init
loop-power-init c = starts _ _ (omega arith)

pub overflow_mul-power : goal.overflow_mul-power
overflow_mul-power c =
    let low = within c.args.m c.args.n (omega arith) c.loop-power.invariant in
    let few : c.loop-power.power ≤ 1048576 = omega (arith, low.0) in
    let side : c.args.m ≤ 4096 = omega arith in
    record { fits = omega (arith, mul-le-mul few side) }

pub overflow_add-count : goal.overflow_add-count
overflow_add-count c =
    omega (arith, (within c.args.m c.args.n (omega arith) c.loop-power.invariant).1)

pub loop-power-smaller : goal.loop-power-smaller
loop-power-smaller c =
    omega (arith, (goes_on c.args.m c.args.n (omega arith) c.loop-power.invariant (search)).before)

pub loop-power-preserved : goal.loop-power-preserved
loop-power-preserved c =
    goes_on c.args.m c.args.n (omega arith) c.loop-power.invariant (search)

pub returns : goal.returns
returns c =
    let one : c.loop-power.power ≡ 1 = search in
    record { large = λ big. ends_at c.args.m c.args.n big (rw one at c.loop-power.invariant); small = λ few. absurd (omega arith) }
