-- The records' gates in the tables, record by record.
use Prim.Native.Nat.{ℕ, zero, suc, ◌+◌, ◌-◌, ◌<◌, ◌≤◌}
use mathlib.Core.Path.{◌≡◌, refl, sym, ap, ◌∙◌, subst}
use mathlib.Core.List.{List, [], ◌∷◌, ◌++◌}
use native.Mathlib.Omega.{arith}
use native.Mathlib.Numerals.{add-one}
use lib.ListN.{length, take, get_or}
use Rattle.std.proofs.lemmas.List.{get_or-take}
use Rattle.netlist.specs.declared.Refusal.{Refusal}
use Rattle.netlist.specs.declared.Gate.{Gate}
use Rattle.netlist.specs.Refusal.{number_of}
use Rattle.netlist.specs.Outcome.{Outcome, refused, done, and_then}
use Rattle.netlist.specs.Table.{Tables, gates_of, put_entry, Wired}
use Rattle.netlist.proofs.Puts.{Room}
use Rattle.gates.specs.declared.records.SourceRecord.{SourceRecord}
use Rattle.gates.specs.Records.{blank_source, gate_in}
use Rattle.gates.specs.declared.Entry.{Entry}
use Rattle.gates.proofs.EntriesLaws.{stored}
use Rattle.session.specs.Asked.{gate_good}
use Rattle.session.specs.Shown.{record_gates}
use Rattle.session.specs.Parts.{GateIs}

-- the gates of the first k records lie in the tables
pub record Filled (n : ℕ) (source : List SourceRecord) (k : ℕ) (t : Tables) : Type 0 where
  pub gates : record_gates n source k ≡ done (gates_of t k)
  pub wired : Wired t (n + length source) k

-- the first records are those of the list's front
pub records-front : (n c : ℕ) (source : List SourceRecord) (k : ℕ) → k ≤ c → record_gates n (take c source) k
    ≡ record_gates n source k
records-front n c source zero l = refl
records-front n c source (suc k) l = rw (
  records-front n c source k (omega (arith, l)),
  get_or-take c source k
      blank_source (omega (arith, l)),
) refl

-- a no of a record is one of all after it
stays : (n : ℕ) (source : List SourceRecord) (k m : ℕ) {q : ℕ} → record_gates n source k ≡ refused q
    → record_gates n source (k + m) ≡ refused q
stays n source k zero e = let z : k + 0 ≡ k = omega arith in rw z e
stays n source k (suc m) e = let z : k + suc m ≡ suc (k + m) = omega arith in rw (z, stays n source k m e) refl

module _ (n : ℕ) (source : List SourceRecord) (k : ℕ) (t : Tables) (f : Filled n source k t) (l : k < length source)
  where
    abbrev good : Outcome Gate
    good = gate_good (n + k) (gate_in (get_or source k blank_source))

    -- one record more
    goes_on : record_gates n source (k + 1) ≡ (and_then good λ g. done (gates_of t k ++ (g ∷ [])))
    goes_on = ap (record_gates n source) (add-one k) ∙ ap (λ (o : Outcome (List Gate)). and_then o λ gs. and_then good
        λ g. done (gs ++ (g ∷ []))) f.gates

    pub filled_no : (q : Refusal) → good ≡ refused (number_of q) → record_gates n source (length source)
        ≡ refused (number_of q)
    filled_no q e =
        let m : ℕ = length source - (k + 1) in
        let z : k + 1 + m ≡ length source = omega (arith, l) in
        subst (λ (j : ℕ). record_gates n source j ≡ refused (number_of q)) z
        (stays n source (k + 1) m (goes_on ∙ ap (λ (o : Outcome Gate). and_then o λ g. done (gates_of t k ++ (g ∷ [])))
        e))

    module _ (e : Entry) (room : Room t k) (r : GateIs (get_or source k blank_source) (n + k) e) where
      pub filled_more : Filled n source (k + 1) (put_entry t k e.operands e.results)
      filled_more =
          let p = stored t room (r.entered (n + length source) (omega (arith, l))) refl in
          record {
            gates = goes_on ∙ ap (λ (o : Outcome Gate). and_then o λ g. done (gates_of t k ++ (g ∷ []))) r.admitted
                ∙ ap done (sym p.gates);
            wired = p.wired f.wired;
          }
