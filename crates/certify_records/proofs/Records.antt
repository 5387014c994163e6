-- Records that say the same: atoms exchanged, and an atom dropped on which nothing depends.
use mathlib.Core.Path.{◌≡◌, refl, sym, ap, ap₂, ◌∙◌}
use mathlib.Core.Bool.{Bool, true, false, not}
use Prim.Native.Nat.{ℕ, ◌+◌, ◌<◌}
use native.Mathlib.Omega.{arith}
use borrow.Author.Tests.{eq-eqb}
use Rattle.netlist.specs.Table.{made_of}
use Rattle.netlist.specs.Eval.{differs}
use Rattle.evaluate.specs.Lane.{lane}
use Rattle.certify_records.specs.declared.Record.{Record}
use Rattle.certify_records.specs.Place.{exchanged, turned}
use Rattle.std.specs.Prelude.{Some}
use Rattle.certify_records.specs.Record.{Has, At, Right, Says, JoinIs, no_atom}
use Rattle.certify_records.proofs.Tables.{exchanged-bit, exchanged-mask, exchanged-below, turned_bit, turned-mask}
use Rattle.certify_records.proofs.Tables.{turned-below}

-- a record by its parts
abbrev pub rec : ℕ → ℕ → ℕ → ℕ → ℕ → Record
rec t a b c d = record { table = t; first = a; second = b; third = c; fourth = d }

-- an atom that has a bit has an equal one
has-as : {bits : ℕ → Bool} {a : ℕ} {b c : Bool} → c ≡ b → Has bits a b → Has bits a c
has-as e h = record { bit = λ n. h.bit n ∙ sym e }

-- two bits are equal, or one is the other's inverse
pub on_pair : {P : Type 0} (x y : Bool) → (x ≡ y → P) → (x ≡ not y → P) → P
on_pair true true f g = f refl
on_pair true false f g = g refl
on_pair false true f g = g refl
on_pair false false f g = f refl

module _ (t u a b c d : ℕ) where
  module _ (j : ℕ) (p : j < 3) (tables : (l : ℕ) → l < 64 → lane l u ≡ lane (exchanged j l) t) (bits : ℕ → Bool)
      (wire : Bool → Bool → Bool) where
    -- what stands at a place of the table with exchanged atoms
    moved : {r : Record} → r.table ≡ t → Right bits wire r → (l : ℕ) → l < 64 → At bits r (exchanged j l) → lane l u
        ≡ wire (lane 0 l) (lane 1 l)
    moved {r} e R l h at =
        tables l h ∙ ap (lane (exchanged j l)) (sym e) ∙ R.each (exchanged j l) (exchanged-below j l p h) at
        ∙ ap₂ wire (exchanged-mask j 0 l p (omega arith) h) (exchanged-mask j 1 l p (omega arith) h)

  module _ (tables : (l : ℕ) → l < 64 → lane l u ≡ lane (exchanged 0 l) t) where
    pub low-says : Says (rec t a b c d) (rec u b a c d)
    low-says = record {
      right = λ R. record {
        each = λ l h at.
            moved 0 (omega arith) tables _ _ refl R l h record {
              first = has-as (exchanged-bit 0 2 l (omega arith) (omega arith) h) at.second;
              second = has-as (exchanged-bit 0 3 l (omega arith) (omega arith) h) at.first;
              third = has-as (exchanged-bit 0 4 l (omega arith) (omega arith) h) at.third;
              fourth = has-as (exchanged-bit 0 5 l (omega arith) (omega arith) h) at.fourth;
            };
      };
    }

  module _ (tables : (l : ℕ) → l < 64 → lane l u ≡ lane (exchanged 1 l) t) where
    pub middle-says : Says (rec t a b c d) (rec u a c b d)
    middle-says = record {
      right = λ R. record {
        each = λ l h at.
            moved 1 (omega arith) tables _ _ refl R l h record {
              first = has-as (exchanged-bit 1 2 l (omega arith) (omega arith) h) at.first;
              second = has-as (exchanged-bit 1 3 l (omega arith) (omega arith) h) at.third;
              third = has-as (exchanged-bit 1 4 l (omega arith) (omega arith) h) at.second;
              fourth = has-as (exchanged-bit 1 5 l (omega arith) (omega arith) h) at.fourth;
            };
      };
    }

  module _ (tables : (l : ℕ) → l < 64 → lane l u ≡ lane (exchanged 2 l) t) where
    pub high-says : Says (rec t a b c d) (rec u a b d c)
    high-says = record {
      right = λ R. record {
        each = λ l h at.
            moved 2 (omega arith) tables _ _ refl R l h record {
              first = has-as (exchanged-bit 2 2 l (omega arith) (omega arith) h) at.first;
              second = has-as (exchanged-bit 2 3 l (omega arith) (omega arith) h) at.second;
              third = has-as (exchanged-bit 2 4 l (omega arith) (omega arith) h) at.fourth;
              fourth = has-as (exchanged-bit 2 5 l (omega arith) (omega arith) h) at.third;
            };
      };
    }

module _ (t a b c d : ℕ) where
  module _ (bits : ℕ → Bool) (wire : Bool → Bool → Bool) (j : ℕ) (p : j < 4) (tables : (l : ℕ) → l < 64 → lane l t
      ≡ lane (turned j l) t) where
    -- what stands at a place where atom j has either bit
    either : Right bits wire (rec t a b c d) → (l : ℕ) → l < 64 → (atom : ℕ)
        → (bits atom ≡ lane (j + 2) l → At bits (rec t a b c d) l)
        → (bits atom ≡ lane (j + 2) (turned j l) → At bits (rec t a b c d) (turned j l))
        → lane l t ≡ wire (lane 0 l) (lane 1 l)
    either R l h atom same other =
        on_pair (bits atom) (lane (j + 2) l) (λ e. R.each l h (same e)) (λ e.
        let f : lane (j + 2) (turned j l) ≡ not (lane (j + 2) l) =
        turned_bit j (j + 2) l p (omega arith) h ∙ ap (λ (x : Bool). differs x (lane (j + 2) l))
        (eq-eqb (j + 2) (j + 2) refl) in
        tables l h ∙ R.each (turned j l) (turned-below j l p h) (other (e ∙ sym f))
        ∙ ap₂ wire (turned-mask j 0 l p (omega arith) h) (turned-mask j 1 l p (omega arith) h))

  module _ (tables : (l : ℕ) → l < 64 → lane l t ≡ lane (turned 0 l) t) where
    pub without-first : Says (rec t a b c d) (rec t no_atom b c d)
    without-first = record {
      right = λ R. record {
        each = λ l h at.
            either _ _ 0 (omega arith) tables R l h (a)
            (λ e. record { first = record { bit = λ n. e }; second = at.second; third = at.third; fourth = at.fourth })
            (λ e. record {
              first = record { bit = λ n. e };
              second = has-as (turned_bit 0 3 l (omega arith) (omega arith) h) at.second;
              third = has-as
                  (turned_bit 0 4 l (omega arith) (omega arith) h) at.third;
              fourth = has-as (turned_bit 0 5 l (omega arith) (omega arith) h) at.fourth;
            });
      };
    }

  module _ (tables : (l : ℕ) → l < 64 → lane l t ≡ lane (turned 1 l) t) where
    pub without-second : Says (rec t a b c d) (rec t a no_atom c d)
    without-second = record {
      right = λ R. record {
        each = λ l h at.
            either _ _ 1 (omega arith) tables R l h (b)
            (λ e. record { first = at.first; second = record { bit = λ n. e }; third = at.third; fourth = at.fourth })
            (λ e. record {
              first = has-as (turned_bit 1 2 l (omega arith) (omega arith) h) at.first;
              second = record { bit = λ n. e };
              third = has-as
                  (turned_bit 1 4 l (omega arith) (omega arith) h) at.third;
              fourth = has-as (turned_bit 1 5 l (omega arith) (omega arith) h) at.fourth;
            });
      };
    }

  module _ (tables : (l : ℕ) → l < 64 → lane l t ≡ lane (turned 2 l) t) where
    pub without-third : Says (rec t a b c d) (rec t a b no_atom d)
    without-third = record {
      right = λ R. record {
        each = λ l h at.
            either _ _ 2 (omega arith) tables R l h (c)
            (λ e. record { first = at.first; second = at.second; third = record { bit = λ n. e }; fourth = at.fourth })
            (λ e. record {
              first = has-as (turned_bit 2 2 l (omega arith) (omega arith) h) at.first;
              second = has-as
                  (turned_bit 2 3 l (omega arith) (omega arith) h) at.second;
              third = record { bit = λ n. e };
              fourth = has-as
                  (turned_bit 2 5 l (omega arith) (omega arith) h) at.fourth;
            });
      };
    }

  module _ (tables : (l : ℕ) → l < 64 → lane l t ≡ lane (turned 3 l) t) where
    pub without-fourth : Says (rec t a b c d) (rec t a b c no_atom)
    without-fourth = record {
      right = λ R. record {
        each = λ l h at.
            either _ _ 3 (omega arith) tables R l h (d)
            (λ e. record { first = at.first; second = at.second; third = at.third; fourth = record { bit = λ n. e } })
            (λ e. record {
              first = has-as (turned_bit 3 2 l (omega arith) (omega arith) h) at.first;
              second = has-as
                  (turned_bit 3 3 l (omega arith) (omega arith) h) at.second;
              third = has-as (turned_bit 3 4 l (omega arith) (omega arith) h) at.third;
              fourth = record { bit = λ n. e };
            });
      };
    }

abbrev pub Agrees : ℕ → ℕ → ℕ → Type 0
Agrees a b z = (bits : ℕ → Bool) (x : Bool) → Has bits z x → Has bits a x × Has bits b x

module _ (kind : ℕ) (x y : Record) (t : ℕ) {a b c d : ℕ} (tables : (l : ℕ) → l < 64 → lane l t
    ≡ made_of kind (lane l x.table) (lane l y.table))
    (ga : Agrees x.first y.first a) (gb : Agrees x.second y.second b) (gc : Agrees x.third y.third c)
    (gd : Agrees x.fourth y.fourth d) where
  pub meet-law : JoinIs kind x y (Some (rec t a b c d))
  meet-law bits u v R S = record {
    each = λ l h at.
        let pa = ga bits (lane 2 l) at.first in
        let pb = gb bits (lane 3 l) at.second in
        let pc = gc bits (lane 4 l) at.third in
        let pd = gd bits (lane 5 l) at.fourth in
        tables l h
        ∙ ap₂ (made_of kind) (R.each l h record { first = pa.0; second = pb.0; third = pc.0; fourth = pd.0 })
        (S.each l h record { first = pa.1; second = pb.1; third = pc.1; fourth = pd.1 });
  }
