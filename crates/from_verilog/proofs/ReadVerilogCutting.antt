-- What the tables hold of a module, where those of the names are cut to the names in use.
use Prim.Native.Nat.{ℕ, ◌≤◌, ◌<◌}
use mathlib.Core.Path.{◌≡◌, sym, ap, subst, ◌∙◌}
use mathlib.Core.List.{List, ◌++◌}
use native.Mathlib.Omega.{arith}
use lib.Dec.{eqb}
use lib.ListN.{length, take}
use lib.Seq.{length-take-le}
use Rattle.std.proofs.Common.{length-take}
use Rattle.std.proofs.lemmas.List.{take-append-le}
use Rattle.verilog.specs.Syntax.{Module}
use Rattle.from_verilog.specs.Names.{Chained}
use Rattle.from_verilog.proofs.Adding.{Agree, names-agree}
use Rattle.from_verilog.proofs.VerilogNamesCutting.{found-agree, chained-agree, cut-agree, chained-cut}
use Rattle.from_verilog.specs.Wires.{before, wire_of}
use Rattle.from_verilog.specs.Stages.{AllDeclared}
use Rattle.std.specs.Prelude.{Some}
use Rattle.from_verilog.specs.declared.rules.Kept.{Kept as Answer}
use Rattle.from_verilog.specs.Kept.{KeptAt, RulesAre}

pub cut-length : (xs : List ℕ) (n : ℕ) → n ≤ length (take n xs) → length (take n xs) ≡ n
cut-length xs n h = let l = length-take n xs in omega (arith, h, l)

-- the declared names
pub declared-cut : {t heads words links st : List ℕ} {at size most count place : ℕ} → AllDeclared t at size most heads
    words links st count place
    → AllDeclared t at size most heads (take count words) (take count links) st count place
declared-cut {t} {words = words} {links = links} {count = count} D = record {
  names = subst (Chained t _ _ _ _) (length-take-le count words D.names.worded) (chained-cut D.names);
  few = D.few;
  within = D.within;
  gives = λ ts e. let L = D.gives ts e in record {
    names = names-agree t words (take count words) count (cut-agree t words count) ∙ L.names;
    states = L.states;
    once = L.once;
    left = L.left;
  };
}

wire-agree : (t words words' ws w : List ℕ) (n : ℕ) → Agree t words words' n → wire_of t words' ws n w
    ≡ wire_of t words ws n w
unfolding wire_of
wire-agree t words words' ws w n a = ap (λ (p : ℕ). before p ws) (found-agree t words words' w n a)

-- the tables of a module that keeps the rules
pub kept-agree : {m : Module} {t heads words words' links links' st ws : List ℕ} {size : ℕ} {k : Answer}
    → Agree t words words' k.count → Agree t links links' k.count
    → k.count ≤ length words' → k.count ≤ length links' → KeptAt m t size heads words links st ws k
    → KeptAt m t size heads words' links' st ws k
kept-agree {t = t} {words = words} {words'} {st = st} {ws} {k = k} a b long linked K = record {
  names = chained-agree a b long linked K.names;
  stated = K.stated;
  wired = K.wired;
  input_wires = λ v. wire-agree t words words' ws v k.count a ∙ K.input_wires v;
  output_names = λ v. ap (λ (x : ℕ). eqb x 6) (wire-agree t words words' st v k.count a) ∙ K.output_names v;
  targets = λ v h. subst (λ (x : ℕ). 0 < x) (sym (found-agree t words words' v k.count a)) (K.targets v h);
  inputs = K.inputs;
  outputs = K.outputs;
  ports_within = K.ports_within;
  assigns_within = K.assigns_within;
  items = K.items;
  ports_at = K.ports_at;
  assigns_at = K.assigns_at;
}

module _ {t heads words links st ws : List ℕ} {size : ℕ} {k : Answer} where
  -- the tables from which those were cut
  pub rules-whole : k.count ≤ length words → k.count ≤ length links
      → RulesAre t size heads (take k.count words) (take k.count links) st ws (Some k) → RulesAre t size heads words
      links st ws (Some k)
  rules-whole long linked A = record {
    gives = λ m S. let R = A.gives m S in (
      R.0,
      kept-agree (λ i h. sym (cut-agree t words k.count i h)) (λ i h. sym (cut-agree t links k.count i h)) long linked
          R.1,
    );
  }

  -- the tables cut, where more stands after the words
  pub rules-cut : (rest : List ℕ) → RulesAre t size heads words links st ws (Some k)
      → RulesAre t size heads (take k.count (words ++ rest)) (take k.count links) st ws (Some k)
  rules-cut rest A = record {
    gives = λ m S.
        let R = A.gives m S in
        let w = length-take-le k.count words R.1.names.worded in
        let l = length-take-le k.count links R.1.names.linked in (
          R.0,
          rw (take-append-le k.count words rest R.1.names.worded)
              (kept-agree (cut-agree t words k.count) (cut-agree t links k.count) (omega (arith, w)) (omega (arith, l))
              R.1),
        );
  }
