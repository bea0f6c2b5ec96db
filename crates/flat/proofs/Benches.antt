-- The benches hold: one computed test over the table, turned into the rule at each row.
use Rattle.lists.proofs.Kit.{Bool, same, at_entry, same→eq}
use Rattle.layout.specs.Layout.{laid, at, pick, coords, places, place_of, volume}
use Rattle.flat.specs.Gcd.{gcd_of, euclid}
use Rattle.orders.specs.Numbers.{order_of, orders, arrangements}
use Rattle.orders.specs.Plans.{plan_of, planned, falling, under, first_back, relabelled}
use Rattle.flat.specs.Turn.{turned, turned_back}
use Rattle.flat.specs.Passes.{passed1, passed2, passed3, cells, row1, column2, source2, row3}
use Rattle.flat.specs.Benches.{Row, answer, benches, Benches}

holds : Row → Bool
holds r = same (answer r.asked) r.says

pub benches_hold : Benches
unfolding holds answer turned turned_back passed1 passed2 passed3 cells row1 column2 source2 row3 gcd_of euclid laid at pick coords places place_of volume order_of orders arrangements plan_of planned falling under first_back relabelled
benches_hold r m = same→eq (answer r.asked) r.says (at_entry holds benches tt r m)
