-- How many entries a result has is below 2^63, since its buffer has as many.
use Rattle.std.specs.Prelude.{Result, Ok, Err}
use Prim.Native.Nat.{ℕ, ◌^◌, ◌<◌}
use mathlib.Core.Path.{◌≡◌, sym, ap, ◌∙◌}
use mathlib.Core.List.{List}
use native.Mathlib.Omega.{arith}
use lib.ListN.{length, take, length-take}
use lib.Seq.{length-sets}
use Rattle.netlist.specs.declared.Refusal.{Refusal}
use Rattle.netlist.specs.Outcome.{Outcome}
use Rattle.netlist.specs.Services.{counted, written, Answers}
use Rattle.netlist.proofs.Questions.{done-same}
use Rattle.capi.specs.Number.{Countable}

pub countable : {call : Outcome (List ℕ)} {e x : List ℕ} {a : Result ℕ Refusal} → Answers call e x a → length e < 2 ^ 63
    → Countable a
countable {call} {e} {x} {a} h small = go a h
  where
    go : (a : Result ℕ Refusal) → Answers call e x a → Countable a
    go (Err q) k = tt
    go (Ok n) k =
        let m : n ≡ length (take n x) = done-same n (length (take n x)) (k.answer ∙ ap counted (sym k.outcome)) in
        omega (arith, m, length-take n x, ap length k.buffer, length-sets e 0 (written call))
