-- From a conversion to the promise.
use Rattle.std.specs.Prelude.{Result}
use Prim.Native.Nat.{ℕ}
use mathlib.Core.Path.{◌≡◌, refl, ap, ◌∙◌}
use mathlib.Core.List.{List, [], ◌∷◌}
use lib.ListN.{length}
use Rattle.netlist.specs.declared.Refusal.{Refusal}
use Rattle.netlist.specs.declared.Sizes.{Sizes}
use Rattle.netlist.specs.Netlist.{masked_limits}
use Rattle.netlist.proofs.Size.{roomy-large}
use Rattle.netlist.proofs.Answering.{answers-as}
use Rattle.dialect.specs.declared.Dialect.TheVariants.{Fashion, Old}
use Rattle.dialect.specs.OldRead.{read_old}
use Rattle.dialect.specs.OldCalls.{from_old_call, to_old_call}
use Rattle.dialect.proofs.ThereAndBack.{old-reads, from-old-again, fashion-again}
use Rattle.convert.specs.Convert.{convert_call, Converts}
use Rattle.convert.proofs.Converting.{call-text}
use Rattle.convert.specs.ToOldPromise.{Promise}

same-call : (s : Sizes) (tables text : List ℕ) (room : ℕ) → convert_call Fashion Old (masked_limits s) tables text room
    ≡ to_old_call (masked_limits s) tables text room
unfolding to_old_call
same-call s tables text room = refl

pub promised : {s : Sizes} {text out out' o o' r r' g g' : List ℕ} {a : Result ℕ Refusal} → Converts Fashion Old s text
    out out' o o' r r' g g' a
    → Promise s text out out' o o' r r' g g' a
promised {s} {text} {out} {out'} {o} {o'} {r} {r'} {g} {g'} {a} c =
    let wrote = call-text Fashion Old s text out o r g c.answers in
    record {
      answers = answers-as (same-call s (length o ∷ length r ∷ length g ∷ []) text (length out)) c.answers;
      same = λ n N p e. ap (read_old (masked_limits s)) (wrote n N p e).1 ∙ old-reads (roomy-large s) N text e
          (wrote n N p e).0;
      back = λ n N p e.
          record {
            call = λ tables room.
                ap (λ (t : List ℕ). from_old_call (masked_limits s) tables t room) (wrote n N p e).1
                ∙ from-old-again (roomy-large s) N text e (wrote n N p e).0 tables room;
            same = fashion-again (roomy-large s) N text e (wrote n N p e).0;
          };
      operands = c.operands;
      results = c.results;
      marks = c.marks;
    }
