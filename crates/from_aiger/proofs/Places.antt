-- What cursors of a text answer, as places of it.
use Prim.Native.Nat.{ℕ}
use mathlib.Core.Path.{◌≡◌, sym, ap, ◌∙◌}
use mathlib.Core.Bool.{false}
use mathlib.Core.List.{List}
use mathlib.Core.Option.{none}
use denote.Bor.{Bor}
use lib.ListN.{drop}
use Rattle.netlist.specs.Number.{number}
use Rattle.text.specs.Line as L
use Rattle.text.specs.Answers as A
use Rattle.text.specs.Cursors as C
use Rattle.text.specs.declared.cursor.Cursor.{Cursor}
use Rattle.text.proofs.Cursors.{places}
use Rattle.from_aiger.specs.Stray.{is_plain}

module _ {t : Bor (List ℕ)} {c : Cursor} (e : c.text ≡ t) where
  pub spaces-at : {d : Cursor} → C.Scanned is_plain c d → L.Scanned is_plain t.now c.at d.at
  spaces-at {d} s = rw e at (places is_plain c d s)

  pub whole-at : {v : ℕ} {d : Cursor} → C.NumberHere c v d → A.WholeAt t.now c.at v d.at
  whole-at {v} {d} w =
      let p : A.WholeAt c.text.now c.at v d.at = record {
        value = w.value;
        left = ap (λ x. drop d.at x.now) (sym w.same) ∙ w.rest;
        on = w.on;
        within = (let i = d.within in rw (sym w.same) i);
      } in
      rw e at p

  pub end-at : {d : Cursor} → C.EndAt c d → L.EndAt t.now c.at d.at
  end-at {d} f =
      let p : L.EndAt c.text.now c.at d.at = record {
        none = f.none;
        left = ap (λ x. drop d.at x.now) (sym f.same) ∙ f.rest;
        on = f.on;
        within = (let i = d.within in rw (sym f.same) i);
      } in
      rw e at p

pub none-at : {t : Bor (List ℕ)} (c : Cursor) → c.text ≡ t → number (L.take_while L.in_word (C.left c)) ≡ none
    → number (A.word_from t.now c.at) ≡ none
none-at c e h = rw e at h

pub more-at : {t : Bor (List ℕ)} (c : Cursor) → c.text ≡ t → L.is_empty (L.line_words (C.left c)) ≡ false
    → L.is_empty (L.line_words (drop c.at t.now)) ≡ false
more-at c e h = rw e at h
