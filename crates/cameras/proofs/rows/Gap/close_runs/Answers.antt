-- `close_runs` meets its contract: the runs between the first few and the last few have room for sixteens: they move far enough, and the rows past them
-- reach as far as what is read.
use Rattle.lists.proofs.Kit.{suc, ◌+◌, ◌-◌, ◌≤◌, mul-le-mul_right, arith}
use Rattle.cameras.proofs.rows.Gap.close_runs.Goals as goal

pub close-requires-2 : goal.close-requires-2
close-requires-2 c =
    let n = c.args.self.n in
    let high = c.args.last - c.min.result in
    let up : high ≤ c.args.last = omega arith in
    record {
      order = omega (arith, c.min.ensures, c.min-low.ensures);
      all = omega arith;
      inside = omega (arith, mul-le-mul_right (suc n) up);
      room = λ some.
          let rest : high + c.ending_runs.result ≤ c.args.last = omega (arith, c.min.ensures) in
          (omega (arith, c.min-low.ensures), omega (arith, mul-le-mul_right (suc n) rest));
    }
