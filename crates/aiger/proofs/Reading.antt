-- The netlist of an accepted AIGER file.
use Prim.Native.Nat.{ℕ}
use mathlib.Core.Path.{◌≡◌, refl, sym, ap, subst, ◌∙◌}
use mathlib.Core.Bool.{◌&&◌}
use mathlib.Core.List.{List}
use lib.Dec.{T, eqb, leb, ltb, leb→le}
use lib.ListN.{length, drop}
use Rattle.netlist.specs.declared.Limits.{Limits}
use Rattle.netlist.specs.Netlist.{Netlist, input_bits, output_bits}
use Rattle.netlist.specs.Outcome.{done, ask, given, and_then}
use Rattle.netlist.specs.Header.{within_limits}
use Rattle.netlist.specs.Read.{read_netlist, header_of, Within}
use Rattle.netlist.specs.Write.{write_netlist}
use Rattle.netlist.specs.Services.{tables_long, holds, rewrite_outcome}
use Rattle.netlist.proofs.Tests.{both, is_true}
use Rattle.netlist.proofs.Questions.{done-same, ask-done, given-done, and_then-done}
use Rattle.netlist.proofs.Size.{Roomy, reads-back}
use Rattle.aiger.specs.File.{File}
use Rattle.aiger.specs.Lines.{opens, Head, head, head_good, lines_after, output_line, input_line, file}
use Rattle.aiger.specs.Rules.{rules_kept}
use Rattle.aiger.specs.Made.{netlist_made}
use Rattle.aiger.specs.Delivered.{Stands, Reads, Delivered}
use Rattle.aiger.specs.Call.{head_outcome, file_outcome, lines_outcome, read_aiger, aiger_call}
use Rattle.aiger.proofs.Making.{Kept, kept, made-well_formed, made-computes}
use Rattle.aiger.proofs.Forms.{formed-length, Formed, file-formed}

made-within : (L : Limits) (N : Netlist) → T (within_limits L (header_of N)) → Within L N
made-within L N t =
    let a = leb N.wires L.wires in
    let b = leb (length N.inputs) L.inputs in
    let c = leb (length N.outputs) L.outputs in
    let d = leb (input_bits N) N.wires in
    let p = both (a && b && c && d) (leb (output_bits N) N.wires) t in
    let q = both (a && b && c) d p.0 in
    let r = both (a && b) c q.0 in
    let s = both a b r.0 in
    record {
      wires = leb→le N.wires L.wires s.0;
      inputs = leb→le (length N.inputs) L.inputs s.1;
      outputs = leb→le (length N.outputs) L.outputs r.1;
    }

-- the lines are as many as the header says
stands-kept : {L : Limits} {t : List ℕ} (S : Stands L t) → Kept S.is
stands-kept {L} {t} S =
    let H = S.header in
    let F = S.is in
    let f : Formed H (lines_after t) F = file-formed H (lines_after t) F S.lines in
    let p = both (leb 1 H.inputs && leb 1 H.outputs) (ltb H.most L.wires) S.good in
    let q = both (leb 1 H.inputs) (leb 1 H.outputs) p.0 in
    kept F S.rules
    (rw (formed-length input_line H.inputs (lines_after t) F.inputs f.inputs) (leb→le 1 H.inputs q.0))
    (rw (formed-length output_line H.outputs (drop H.inputs (lines_after t)) F.outputs f.outputs)
    (leb→le 1 H.outputs q.1))

pub aiger-reads : (L : Limits) (t : List ℕ) (S : Stands L t) → Reads L t (netlist_made S.is)
aiger-reads L t S = record {
  stands = S;
  made = refl;
  formed = made-well_formed (stands-kept S);
  within = made-within L (netlist_made S.is) S.limits;
  computes = made-computes (stands-kept S);
}

-- every question got a yes, and the netlist is the one made
pub aiger-read : (L : Limits) (t : List ℕ) (N : Netlist) → read_aiger L t ≡ done N → Reads L t N
unfolding read_aiger
aiger-read L t N e =
    let k₂ = ask-done 2 (leb (length t) L.text) (and_then (head_outcome L t) (lines_outcome L t)) N e in
    let kh = and_then-done (head_outcome L t) (lines_outcome L t) N k₂.1 in
    let H₁ : Head = kh.0 in
    let k₁₉ = ask-done 19 (opens t) _ H₁ kh.1 in
    let kg = and_then-done (given 19 (head t)) _ H₁ k₁₉.1 in
    let H : Head = kg.0 in
    let kw = ask-done 19 (head_good L H) (ask 20 (eqb H.latches 0) (done H)) H₁ kg.2 in
    let k₂₀ = ask-done 20 (eqb H.latches 0) (done H) H₁ kw.1 in
    let same : H ≡ H₁ = done-same H H₁ k₂₀.1 in
    let kf = and_then-done (given 19 (file H₁ (lines_after t))) (file_outcome L) N kh.2 in
    let F : File = kf.0 in
    let M = netlist_made F in
    let kr = ask-done 19 (rules_kept F) (ask 5 (within_limits L (header_of M)) (done M)) N kf.2 in
    let k₅ = ask-done 5 (within_limits L (header_of M)) (done M) N kr.1 in
    subst (Reads L t) (done-same M N k₅.1) (aiger-reads L t (record {
      size = k₂.0;
      opening = k₁₉.0;
      header = H;
      first = given-done 19 (head t) H kg.1;
      good = kw.0;
      latches = k₂₀.0;
      is = F;
      lines = ap (λ (H : Head). file H (lines_after t)) same ∙ given-done 19 (file H₁ (lines_after t)) F kf.1;
      rules = kr.0;
      limits = k₅.0;
    }))

-- and the converse
pub aiger-accepted : (L : Limits) (t : List ℕ) (S : Stands L t) → read_aiger L t ≡ done (netlist_made S.is)
unfolding read_aiger
aiger-accepted L t S =
    rw (
      is_true (leb (length t) L.text) S.size,
      is_true (opens t) S.opening,
      S.first,
      is_true (head_good L S.header) S.good,
      is_true (eqb S.header.latches 0) S.latches,
      S.lines,
      is_true (rules_kept S.is) S.rules,
      is_true (within_limits L (header_of (netlist_made S.is))) S.limits,
    )

-- the written form reads back, under limits that leave room for it
pub aiger-written : {L : Limits} (R : Roomy L) (t : List ℕ) (N : Netlist) → read_aiger L t ≡ done N
    → read_netlist L (write_netlist N) ≡ done N
aiger-written {L} R t N e = let r = aiger-read L t N e in reads-back R N r.formed r.within

pub aiger-delivered : {L : Limits} (R : Roomy L) (tables t : List ℕ) (room : ℕ) (result : List ℕ)
    → aiger_call L tables t room ≡ done result → Delivered L t result
unfolding aiger_call
aiger-delivered {L} R tables t room result e =
    let k₁ = ask-done 1 (tables_long L tables) (and_then (read_aiger L t) (rewrite_outcome room)) result e in
    let k = and_then-done (read_aiger L t) (rewrite_outcome room) result k₁.1 in
    let N : Netlist = k.0 in
    let k₁₄ = ask-done 14 (holds room (write_netlist N)) (done (write_netlist N)) result k.2 in
    let w : write_netlist N ≡ result = done-same (write_netlist N) result k₁₄.1 in
    record {
      netlist = N;
      reads = aiger-read L t N k.1;
      written = sym w;
      back = ap (read_netlist L) (sym w)
          ∙ aiger-written R t N k.1;
    }
