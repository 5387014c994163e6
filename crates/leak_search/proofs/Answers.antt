-- From the leak that the search ends with to that of the netlist.
use mathlib.Core.Path.{◌≡◌, refl, sym, ap, ◌∙◌}
use mathlib.Core.Bool.{Bool, true, false}
use mathlib.Core.List.{List}
use Rattle.std.specs.Prelude.{Option, Some, None}
use Prim.Native.Nat.{ℕ, ◌%◌, ◌^◌, ◌≤◌, ◌<◌}
use native.Mathlib.Nat.{mod-lt}
use native.Mathlib.Omega.{arith}
use lib.Dec.{ltb}
use lib.ListN.{length, get_or}
use lib.Pow.{pow_pos}
use borrow.Author.Tests.{ltb-true, ltb-false}
use Rattle.netlist.specs.Netlist.{Netlist}
use Rattle.masking.specs.Leak.{count, setting, first_wire, count_at, base_at, leak}
use Rattle.netlist.specs.Table.{Tables, Holds}
use Rattle.netlist.proofs.Tests.{on_bool}
use Rattle.masking.proofs.Search.{Searched, search_is}
use Rattle.masking.proofs.Settings.{setting-mod}
use Rattle.evaluate.specs.Bare.{bare}
use Rattle.evaluate.proofs.Runs.{bare-wires}
use Rattle.leak_search.specs.declared.difference.Leak.{Leak}
use Rattle.leak_search.specs.Paint.{paint_each}
use Rattle.leak_search.specs.Base.{part, count_in}
use Rattle.leak_search.proofs.Paints.{each-count}
use Rattle.leak_search.specs.Difference.{LowestDifference}
use Rattle.leak_search.specs.Search.{found_of}
use Rattle.leak_search.proofs.Differences.{difference-same}

-- a count is that of the netlist that the tables hold
count-bare : {t : Tables} {m W n o : ℕ} {N : Netlist} → Holds t m W n o N → (codes : List ℕ) (w : ℕ) (x : List Bool)
    → count (bare t m W) codes w x ≡ count N codes w x
unfolding count
count-bare h codes w x = simp (bare-wires h)

module _ {t : Tables} {m W n o : ℕ} {N : Netlist} (h : Holds t m W n o N) (codes : List ℕ) (S : ℕ) (r : Option (Leak ℕ))
    (room : 2 ^ length codes ≤ S) (small : (i : ℕ) → i < length codes → get_or codes i 0 < 4)
    (lowest : LowestDifference (count_in (bare t m W) false (paint_each 0 codes))
    (count_in (bare t m W) true (paint_each 0 codes)) W S r) where
  abbrev f : ℕ → ℕ → ℕ
  f = base_at N codes

  abbrev g : ℕ → ℕ → ℕ
  g = count_at N codes

  -- settings go round after the last
  round : (secrets : Bool) (w s : ℕ)
      → count N codes w (part secrets codes (setting (length codes) s))
      ≡ count N codes w (part secrets codes (setting (length codes) (s % 2 ^ length codes)))
  round secrets w s = ap (λ (x : List Bool). count N codes w (part secrets codes x)) (setting-mod (length codes) s)

  differs : LowestDifference f g W S r
  differs =
      difference-same (λ w s l. each-count (bare t m W) false codes small w s
      ∙ count-bare h codes w (part false codes (setting (length codes) s)))
      (λ w s l. each-count (bare t m W) true codes small w s
      ∙ count-bare h codes w (part true codes (setting (length codes) s))) lowest

  -- so the first that differs is one of them
  inside : (p : Leak ℕ) → r ≡ Some p → p.setting < 2 ^ length codes
  inside p e =
      let d = differs.differs p e in
      let b = mod-lt p.setting (pow_pos (length codes)) in
      on_bool (ltb p.setting (2 ^ length codes)) (ltb-true p.setting (2 ^ length codes))
      (λ t.
      let c = ltb-false p.setting (2 ^ length codes) t in
      absurd (d.other (round false p.wire p.setting ∙ d.smaller (p.setting % 2 ^ length codes) (omega arith)
      ∙ sym (round true p.wire p.setting))))

  searched : (q : Option (Leak ℕ)) → r ≡ q → Searched f g (2 ^ length codes) W (found_of q)
  searched None e = λ w a s b. differs.lower w (rw e a) s (omega arith)
  searched (Some p) e =
      let d = differs.differs p e in
      record {
        wire = differs.inside p e;
        lower = λ w a s b. differs.lower w (rw e a) s (omega arith);
        differs = record { at = inside p e; smaller = d.smaller; other = d.other; base = d.base; own = d.own };
      }

  pub tells-found : found_of r ≡ leak N codes
  unfolding leak
  tells-found = search_is f g (2 ^ length codes) W (found_of r) (searched r refl)
      ∙ ap (λ (k : ℕ). first_wire f g (2 ^ length codes) k 0) (sym h.wires)
