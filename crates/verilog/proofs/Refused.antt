-- Question 16 refuses a text exactly if no reading of the grammar gives it.
use Prim.Native.Nat.{ℕ, ◌≤◌}
use mathlib.Core.Path.{◌≡◌, refl, ap, ◌∙◌}
use mathlib.Core.Bool.{Bool, true, false, ◌&&◌}
use mathlib.Core.List.{List}
use mathlib.Core.Option.{Option, none, some}
use native.Mathlib.Omega.{arith}
use lib.Dec.{T, leb, leb→le}
use lib.ListN.{length}
use borrow.Author.Tests.{le-leb}
use Rattle.netlist.specs.declared.Limits.{Limits}
use Rattle.netlist.specs.Outcome.{Outcome, refused, done, ask, given, and_then}
use Rattle.netlist.specs.Header.{within_limits}
use Rattle.netlist.specs.Netlist.{Netlist}
use Rattle.netlist.specs.Read.{header_of}
use Rattle.netlist.specs.Services.{tables_long, holds, rewrite_outcome}
use Rattle.netlist.specs.Write.{write_netlist}
use Rattle.netlist.proofs.Tests.{is_true}
use Rattle.verilog.specs.Syntax.{Module, Stands}
use Rattle.verilog.specs.Parse.{parse}
use Rattle.verilog.specs.Depth.{shallow}
use Rattle.verilog.specs.Rules.{rules_kept}
use Rattle.verilog.specs.Made.{netlist_made}
use Rattle.verilog.specs.Call.{made_outcome, read_equations, equations_call}
use Rattle.verilog.specs.Unread.{Unread}
use Rattle.verilog.proofs.Parsing.{parse-sound, refused_none}

-- the number of a refusal
number : {A : Type 0} → Outcome A → ℕ
number (refused q) = q
number (done a) = 0

-- a text that stands for no module has no tree
no-tree : (t : List ℕ) → ((m : Module) → Stands m t → ⊥) → parse t ≡ none
no-tree t h = go (parse t) refl
  where
    go : (o : Option Module) → parse t ≡ o → o ≡ none
    go none e = refl
    go (some m) e = absurd (h m (parse-sound t m e))

module _ (L : Limits) (tables t : List ℕ) (room : ℕ) where
  -- what follows 16 is refused by another number, or is a text
  later : (m : Module) → and_then (made_outcome L m) (rewrite_outcome room) ≡ refused 16 → ⊥
  unfolding number
  later m = go (rules_kept m) (shallow m) (within_limits L (header_of (netlist_made m)))
    where
      last : (d : Bool) → ask 14 d (done (write_netlist (netlist_made m))) ≡ refused 16 → ⊥
      last true e = let n = ap number e in omega arith
      last false e = let n = ap number e in omega arith

      go : (a b c : Bool) → and_then (ask 17 a (ask 18 b (ask 5 c (done (netlist_made m))))) (rewrite_outcome room)
          ≡ refused 16 → ⊥
      go false b c e = let n = ap number e in omega arith
      go true false c e = let n = ap number e in omega arith
      go true true false e = let n = ap number e in omega arith
      go true true true e = last (holds room (write_netlist (netlist_made m))) e

  refused-16 : (a b : Bool) (o : Option Module) → ask 1 a
      (and_then (ask 2 b (and_then (given 16 o) (made_outcome L))) (rewrite_outcome room)) ≡ refused 16
      → T a × T b × (o ≡ none)
  unfolding number
  refused-16 false b o e = let n = ap number e in absurd (omega arith)
  refused-16 true false o e = let n = ap number e in absurd (omega arith)
  refused-16 true true none e = (tt, tt, refl)
  refused-16 true true (some m) e = absurd (later m e)

  pub grammar-unread : equations_call L tables t room ≡ refused 16 → Unread L tables t
  unfolding equations_call read_equations
  grammar-unread e =
      let k = refused-16 (tables_long L tables) (leb (length t) L.text) (parse t) e in
      record { long = k.0; within = leb→le (length t) L.text k.1; none = refused_none t k.2 }

  pub unread-grammar : Unread L tables t → equations_call L tables t room ≡ refused 16
  unfolding equations_call read_equations
  unread-grammar U =
      rw (is_true (tables_long L tables) U.long, le-leb (length t) L.text U.within, no-tree t U.none) refl
