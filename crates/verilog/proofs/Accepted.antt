-- The netlist of an accepted text of equations.
use Prim.Native.Nat.{ℕ, ◌≤◌}
use mathlib.Core.Path.{◌≡◌, sym, ap, subst, ◌∙◌}
use mathlib.Core.Bool.{false, ◌&&◌}
use mathlib.Core.List.{List}
use lib.Dec.{T, leb, leb→le}
use lib.ListN.{length}
use Rattle.netlist.specs.declared.Limits.{Limits}
use Rattle.netlist.specs.declared.Sizes.{Sizes}
use Rattle.netlist.specs.Netlist.{Netlist, input_bits, output_bits, source_limits}
use Rattle.netlist.specs.Outcome.{done, ask, given, and_then}
use Rattle.netlist.specs.Header.{within_limits}
use Rattle.netlist.specs.Read.{read_netlist, header_of, Within}
use Rattle.netlist.specs.Write.{write_netlist}
use Rattle.netlist.specs.Services.{tables_long, holds, rewrite_outcome}
use borrow.Author.Tests.{le-leb}
use Rattle.netlist.proofs.Tests.{both, is_true}
use Rattle.netlist.proofs.Questions.{done-same, ask-done, given-done, and_then-done}
use Rattle.netlist.proofs.Size.{reads-back, roomy-small}
use Rattle.verilog.specs.Syntax.{Module, Stands}
use Rattle.verilog.specs.Parse.{parse}
use Rattle.verilog.specs.Depth.{shallow}
use Rattle.verilog.specs.Rules.{rules_kept}
use Rattle.verilog.specs.Equations.{input_ports, look, entries, assigned}
use Rattle.verilog.specs.Made.{netlist_made}
use Rattle.verilog.specs.Call.{made_outcome, read_equations, equations_call}
use Rattle.verilog.specs.Delivered.{Reads, Delivered}
use Rattle.verilog.proofs.Parsing.{parse-sound, parse-complete}
use Rattle.verilog.proofs.Naming.{kept}
use Rattle.verilog.proofs.Making.{made-well_formed, made-outputs}
use Rattle.verilog.proofs.Solving.{equations-solved, made-computes}

made-within : (L : Limits) (N : Netlist) → T (within_limits L (header_of N)) → Within L N
made-within L N t =
    let a = leb N.wires L.wires in
    let b = leb (length N.inputs) L.inputs in
    let c = leb (length N.outputs) L.outputs in
    let d = leb (input_bits N) N.wires in
    let p = both (a && b && c && d) (leb (output_bits N) N.wires) t in
    let q = both (a && b && c) d p.0 in
    let r = both (a && b) c q.0 in
    let s = both a b r.0 in
    record {
      wires = leb→le N.wires L.wires s.0;
      inputs = leb→le (length N.inputs) L.inputs s.1;
      outputs = leb→le (length N.outputs) L.outputs r.1;
    }

pub equations-read : (L : Limits) (t : List ℕ) (N : Netlist) → read_equations L t ≡ done N → Reads L t N
unfolding read_equations
equations-read L t N e =
    let k₂ = ask-done 2 (leb (length t) L.text) (and_then (given 16 (parse t)) (made_outcome L)) N e in
    let k₁₆ = and_then-done (given 16 (parse t)) (made_outcome L) N k₂.1 in
    let m : Module = k₁₆.0 in
    let M = netlist_made m in
    let k₁₇ = ask-done 17 (rules_kept m) (ask 18 (shallow m) (ask 5 (within_limits L (header_of M)) (done M))) N k₁₆.2
    in
    let k₁₈ = ask-done 18 (shallow m) (ask 5 (within_limits L (header_of M)) (done M)) N k₁₇.1 in
    let k₅ = ask-done 5 (within_limits L (header_of M)) (done M) N k₁₈.1 in
    let K = kept m k₁₇.0 in
    subst (Reads L t) (done-same M N k₅.1) (record {
      tree = m;
      stands = parse-sound t m (given-done 16 (parse t) m k₁₆.1);
      rules = k₁₇.0;
      depth = k₁₈.0;
      made = λ i. M;
      formed = made-well_formed K;
      within = made-within L M k₅.0;
      computes = made-computes K;
      solves = made-outputs K;
      solution = λ ins l. record {
        bits = look false (assigned (entries (input_ports m) ins) m.assigns);
        solves = equations-solved K ins l;
      };
    })

-- its written form reads back as it
pub equations-written : (s : Sizes) (t : List ℕ) (N : Netlist) → read_equations (source_limits s) t ≡ done N
    → read_netlist (source_limits s) (write_netlist N) ≡ done N
equations-written s t N e = let r = equations-read (source_limits s) t N e in reads-back (roomy-small s) N r.formed
    r.within

-- a text that stands for a module which keeps the rules and the limits is accepted
pub equations-accepted : (L : Limits) (t : List ℕ) (m : Module) → length t ≤ L.text → Stands m t → T (rules_kept m)
    → T (shallow m)
    → T (within_limits L (header_of (netlist_made m))) → read_equations L t ≡ done (netlist_made m)
unfolding read_equations
equations-accepted L t m l S r d w =
    rw (
      le-leb (length t) L.text l,
      parse-complete t m S,
      is_true (rules_kept m) r,
      is_true (shallow m) d,
      is_true (within_limits L (header_of (netlist_made m))) w,
    )

-- a result of the call
pub equations-delivered : (s : Sizes) (tables t : List ℕ) (room : ℕ) (result : List ℕ)
    → equations_call (source_limits s) tables t room ≡ done result → Delivered s t result
unfolding equations_call
equations-delivered s tables t room result e =
    let k₁ = ask-done 1 (tables_long (source_limits s) tables)
    (and_then (read_equations (source_limits s) t) (rewrite_outcome room)) result e in
    let k = and_then-done (read_equations (source_limits s) t) (rewrite_outcome room) result k₁.1 in
    let N : Netlist = k.0 in
    let k₁₄ = ask-done 14 (holds room (write_netlist N)) (done (write_netlist N)) result k.2 in
    let w : write_netlist N ≡ result = done-same (write_netlist N) result k₁₄.1 in
    record {
      netlist = N;
      reads = equations-read (source_limits s) t N k.1;
      written = sym w;
      back
          = ap (read_netlist (source_limits s)) (sym w) ∙ equations-written s t N k.1;
    }
