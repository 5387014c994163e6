-- From a call's outcome to the promises.
use Rattle.std.specs.Prelude.{Ok, Err, Result}
use Prim.Native.Nat.{ℕ, ◌^◌, ◌<◌}
use mathlib.Core.Path.{◌≡◌, subst}
use mathlib.Core.Bool.{true}
use mathlib.Core.List.{List, [], ◌∷◌}
use lib.ListN.{length, take, get_or}
use Rattle.netlist.specs.declared.Refusal.{Refusal}
use Rattle.netlist.specs.declared.Sizes.{Sizes}
use Rattle.netlist.specs.Refusal.{number_of}
use Rattle.netlist.specs.Netlist.{Netlist, masked_limits}
use Rattle.netlist.specs.Outcome.{refused, done, ask}
use Rattle.netlist.specs.Read.{read_netlist}
use Rattle.netlist.specs.Services.{tables_long, is_one, Answers}
use Rattle.reader.specs.declared.netlist_tables.NetlistTables.{NetlistTables}
use Rattle.reader.specs.Tables.{HoldsNetlist}
use Rattle.reader.specs.Taken.{TakenOf}
use Rattle.explain.specs.Polynomial.{value}
use Rattle.explain.specs.Wire.{wire_bit, variables, polynomial}
use Rattle.explain.specs.Counts.{counts, WireCounted}
use Rattle.explain.specs.PolynomialPromise as P
use Rattle.explain.specs.CountsPromise as C
use Rattle.explain.proofs.Polynomials.{polynomial-value}
use Rattle.explain.proofs.Counting.{counts-told}
use Rattle.explain.proofs.Calls.{text-not, text-read, text-done, wire-done}

module _ (s : Sizes) (text codes : List ℕ) (wire : ℕ) (out o r g w : List ℕ) where
  abbrev lengths : List ℕ
  lengths = length o ∷ length r ∷ length g ∷ length w ∷ []

  pub polynomial-not : {q : Refusal} → ask 1 (tables_long (masked_limits s) lengths)
      (read_netlist (masked_limits s) text) ≡ refused (number_of q)
      → Answers (P.call s text codes wire out o r g w) out out (Err q)
  unfolding P.polynomial_call
  polynomial-not p = text-not s text out lengths (P.polynomial_outcome codes wire (length out)) p

  pub polynomial-read : {n : NetlistTables} {x : List ℕ} {a : Result ℕ Refusal}
      → (tables_long (masked_limits s) lengths ≡ true) × TakenOf (masked_limits s) text n
      → ((N : Netlist) → HoldsNetlist n N → Answers (P.polynomial_outcome codes wire (length out) N) out x a)
      → Answers (P.call s text codes wire out o r g w) out x a
  unfolding P.polynomial_call
  polynomial-read k f = text-read s text out lengths (P.polynomial_outcome codes wire (length out)) k f

  pub polynomial-function : {x : List ℕ} {a : Result ℕ Refusal} → Answers (P.call s text codes wire out o r g w) out x a
      → (n : ℕ) (N : Netlist) → a ≡ Ok n → read_netlist (masked_limits s) text ≡ done N → (t : ℕ)
      → t < 2 ^ variables codes
      → value (variables codes) (λ m. is_one (get_or (take n x) m 0)) t ≡ wire_bit N true codes wire t
  unfolding P.polynomial_call
  polynomial-function {x} h n N p read t l =
      let e = wire-done N codes (polynomial N codes wire) (take n x) wire (length out)
      (text-done s text out lengths (P.polynomial_outcome codes wire (length out)) h n N p read) in
      subst (λ (c : List ℕ). value (variables codes) (λ m. is_one (get_or c m 0)) t ≡ wire_bit N true codes wire t) e
      (polynomial-value N codes wire t l)

module _ (s : Sizes) (text codes : List ℕ) (wire : ℕ) (out o r g w b : List ℕ) where
  abbrev five : List ℕ
  five = length o ∷ length r ∷ length g ∷ length w ∷ length b ∷ []

  pub counts-not : {q : Refusal} → ask 1 (tables_long (masked_limits s) five)
      (read_netlist (masked_limits s) text) ≡ refused (number_of q)
      → Answers (C.call s text codes wire out o r g w b) out out (Err q)
  unfolding C.counts_call
  counts-not p = text-not s text out five (C.counts_outcome codes wire (length out)) p

  pub counts-read : {n : NetlistTables} {x : List ℕ} {a : Result ℕ Refusal}
      → (tables_long (masked_limits s) five ≡ true) × TakenOf (masked_limits s) text n
      → ((N : Netlist) → HoldsNetlist n N → Answers (C.counts_outcome codes wire (length out) N) out x a)
      → Answers (C.call s text codes wire out o r g w b) out x a
  unfolding C.counts_call
  counts-read k f = text-read s text out five (C.counts_outcome codes wire (length out)) k f

  pub counts-counted : {x : List ℕ} {a : Result ℕ Refusal} → Answers (C.call s text codes wire out o r g w b) out x a
      → (n : ℕ) (N : Netlist) → a ≡ Ok n → read_netlist (masked_limits s) text ≡ done N
      → WireCounted N codes wire (take n x)
  unfolding C.counts_call
  counts-counted {x} h n N p read =
      let e = wire-done N codes (counts N codes wire) (take n x) wire (length out)
      (text-done s text out five (C.counts_outcome codes wire (length out)) h n N p read) in
      subst (WireCounted N codes wire) e (counts-told N codes wire)
