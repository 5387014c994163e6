-- From a call's outcome to the promise.
use Rattle.std.specs.Prelude.{Err, Result}
use Prim.Native.Nat.{ℕ}
use mathlib.Core.Path.{◌≡◌}
use mathlib.Core.Bool.{true}
use mathlib.Core.List.{List, [], ◌∷◌}
use lib.ListN.{length}
use Rattle.netlist.specs.declared.Refusal.{Refusal}
use Rattle.netlist.specs.declared.Sizes.{Sizes}
use Rattle.netlist.specs.Refusal.{number_of}
use Rattle.netlist.specs.Netlist.{Netlist, masked_limits}
use Rattle.netlist.specs.Outcome.{refused, ask}
use Rattle.netlist.specs.Read.{read_netlist}
use Rattle.netlist.specs.Services.{tables_long, Answers}
use Rattle.reader.specs.declared.netlist_tables.NetlistTables.{NetlistTables}
use Rattle.reader.specs.Tables.{HoldsNetlist}
use Rattle.reader.specs.Taken.{TakenOf}
use Rattle.cones.specs.Promise.{cone_outcome, cone_call, call}
use Rattle.explain.proofs.Calls.{text-not, text-read}

module _ (s : Sizes) (text : List ℕ) (wire depth : ℕ) (out o r g : List ℕ) where
  abbrev lengths : List ℕ
  lengths = length o ∷ length r ∷ length g ∷ []

  pub cone-not : {q : Refusal} → ask 1 (tables_long (masked_limits s) lengths) (read_netlist (masked_limits s) text)
      ≡ refused (number_of q) → Answers (call s text wire depth out o r g) out out (Err q)
  unfolding cone_call
  cone-not p = text-not s text out lengths (cone_outcome wire depth (length out)) p

  pub cone-read : {n : NetlistTables} {x : List ℕ} {a : Result ℕ Refusal}
      → (tables_long (masked_limits s) lengths ≡ true) × TakenOf (masked_limits s) text n
      → ((N : Netlist) → HoldsNetlist n N → Answers (cone_outcome wire depth (length out) N) out x a)
      → Answers (call s text wire depth out o r g) out x a
  unfolding cone_call
  cone-read k f = text-read s text out lengths (cone_outcome wire depth (length out)) k f
