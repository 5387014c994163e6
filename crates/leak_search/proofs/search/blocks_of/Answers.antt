-- `check_leak::search::blocks_of` meets its contract.
use mathlib.Core.Path.{◌≡◌, sym, ap, ◌∙◌}
use Prim.Native.Nat.{ℕ, ◌+◌, ◌*◌, ◌-◌, ◌^◌, ◌<◌}
use native.Mathlib.Omega.{arith}
use lib.Dec.{lit<}
use lib.Pow.{pow_mono, pow-lt, pow-add, shl_exact}
use Rattle.leak_search.proofs.search.blocks_of.Goals as goal

pub returns-then-index-lt4 : goal.returns-then-index-lt4
returns-then-index-lt4 c = (pow_mono {j = 4} (omega arith), lit< tt)

pub returns-else-index-lt4 : goal.returns-else-index-lt4
returns-else-index-lt4 c =
    let k = c.args.index in
    let n = k - 4 in
    let q : n + 4 ≡ k = omega arith in
    let p : 2 ^ k ≡ 2 ^ n * 16 = ap (λ (m : ℕ). 2 ^ m) (sym q) ∙ pow-add 2 n 4 in
    let e = shl_exact {a = 1} 1 n 64 (lit< tt) (omega arith) in
    let l : 2 ^ n < 2 ^ 16 = pow-lt {j = 16} (omega arith) in
    (omega arith, omega arith)
