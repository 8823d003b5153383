-- `bounds_problem::curve::between` meets its contract. The products are small. Assumes nothing.
use native.Mathlib.Omega.{arith}
use Prim.Native.Nat.{◌-◌}
use Rattle.bounds_problem.proofs.HeightLoops.{product_small}
use Rattle.bounds_problem.proofs.curve.between.Goals as goal

pub overflow_mul-result : goal.overflow_mul-result
overflow_mul-result c = let p = c.requires in omega (arith, product_small (c.args.q - c.args.y) c.args.a (omega arith) (omega arith))

pub overflow_mul-result-2 : goal.overflow_mul-result-2
overflow_mul-result-2 c = let p = c.requires in omega (arith, product_small (c.args.y - c.args.p) c.args.b (omega arith) (omega arith))

pub overflow_add-result : goal.overflow_add-result
overflow_add-result c =
    let p = c.requires in omega (arith, product_small (c.args.q - c.args.y) c.args.a (omega arith) (omega arith), product_small (c.args.y - c.args.p) c.args.b (omega arith) (omega arith))
