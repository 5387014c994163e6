-- Gate lines written in steps.
use Prim.Native.Nat.{ℕ, ◌≤◌}
use mathlib.Core.Path.{◌≡◌, refl, sym, ap, ◌∙◌}
use mathlib.Core.List.{List, [], ◌∷◌, ◌++◌, append_assoc, append-nil}
use lib.ListN.{length}
use Rattle.netlist.specs.declared.Gate.{Gate}
use Rattle.netlist.specs.Write.{line, gate_words, gate_text}
use Rattle.writer.specs.Wrote.{Wrote, top}
use Rattle.writer.specs.WrittenGates.{WroteGates}
use Rattle.writer.proofs.Writing.{wrote_none, wrote_then, wrote_as}

gate_text-append : (gs hs : List Gate) → gate_text (gs ++ hs) ≡ gate_text gs ++ gate_text hs
gate_text-append [] hs = refl
gate_text-append (g ∷ gs) hs =
    ap (λ (l : List ℕ). line (gate_words g) ++ l) (gate_text-append gs hs)
    ∙ sym (append_assoc (line (gate_words g)) (gate_text gs) (gate_text hs))

pub gates-none : (e : List ℕ) (at : ℕ) → length e ≤ top → at ≤ top → WroteGates e at [] e at
gates-none e at h k = record { wrote = wrote_none e at h k }

pub gates-one : {e x : List ℕ} {at r : ℕ} (g : Gate) → Wrote e at (line (gate_words g)) x r → WroteGates e at (g ∷ []) x
    r
gates-one g w = record { wrote = wrote_as (sym (append-nil (line (gate_words g)))) w }

pub gates-then : {e m x : List ℕ} {gs hs : List Gate} {at r s : ℕ} → WroteGates e at gs m r → WroteGates m r hs x s
    → WroteGates e at (gs ++ hs) x s
gates-then {gs = gs} {hs = hs} a b = record {
  wrote = wrote_as (sym (gate_text-append gs hs))
      (wrote_then a.wrote b.wrote);
}

pub gates-as : {e x : List ℕ} {gs hs : List Gate} {at r : ℕ} → gs ≡ hs → WroteGates e at gs x r → WroteGates e at hs x r
gates-as p w = rw p at w
