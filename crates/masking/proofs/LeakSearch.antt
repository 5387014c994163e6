-- The leak search: it finds nothing exactly where the netlist is clean, and otherwise the lowest leak.
use Prim.Native.Nat.{ℕ, ◌^◌, ◌<◌}
use mathlib.Core.Path.{◌≡◌, sym, ap, ◌∙◌, subst}
use mathlib.Core.Bool.{Bool}
use mathlib.Core.List.{List}
use mathlib.Core.Option.{Option, none, some}
use lib.ListN.{length}
use Rattle.netlist.specs.Netlist.{Netlist}
use Rattle.masking.specs.Leak.{count, public_only, EqualCounts, Clean, setting, Found, count_at, base_at, leak}
use Rattle.masking.specs.Leak.{LowestLeak}
use Rattle.masking.proofs.Settings.{length-public_only, public_only-twice, length-setting, number_of, number_of-below}
use Rattle.masking.proofs.Settings.{setting-number_of}
use Rattle.masking.proofs.Search.{Agree, Searched, search, search_is}

module _ (N : Netlist) (codes : List ℕ) where
  -- wire w has its base's count in every numbered setting
  abbrev Level : ℕ → Type 0
  Level w = Agree (base_at N codes) (count_at N codes) (2 ^ length codes) w

  equal-level : (w : ℕ) → EqualCounts N codes w → Level w
  equal-level w h s l =
      let x = setting (length codes) s in
      h (public_only codes x) x
      (record {
        first = length-public_only codes x;
        second = length-setting (length codes) s;
        public
            = public_only-twice codes x;
      })

  level-equal : (w : ℕ) → Level w → EqualCounts N codes w
  level-equal w h x y a = sym (numbered x a.first) ∙ ap (count N codes w) a.public ∙ numbered y a.second
    where
      numbered : (z : List Bool) → length z ≡ length codes → count N codes w (public_only codes z) ≡ count N codes w z
      numbered z e =
          let s : setting (length codes) (number_of z) ≡ z = ap (λ (k : ℕ). setting k (number_of z)) (sym e)
          ∙ setting-number_of z in
          ap (λ (x : List Bool). count N codes w (public_only codes x)) (sym s)
          ∙ h (number_of z) (subst (λ (k : ℕ). number_of z < 2 ^ k) e (number_of-below z))
          ∙ ap (count N codes w) s

  -- what an answer to the search says of the netlist
  abbrev pub Judged : Option Found → Type 0
  Judged none = Clean N codes
  Judged (some f) = LowestLeak N codes f

  judged-searched : (o : Option Found) → Judged o → Searched (base_at N codes) (count_at N codes) (2 ^ length codes)
      N.wires o
  judged-searched none h = λ w l. equal-level w (h w l)
  judged-searched (some f) h = record {
    wire = h.wire;
    lower = λ w l. equal-level w (h.lower w l);
    differs = record {
      at = h.at;
      smaller = λ s l. sym (h.smaller s l);
      other = λ e. h.other (sym e);
      base = h.base;
      own
          = h.own;
    };
  }

  searched-judged : (o : Option Found) → Searched (base_at N codes) (count_at N codes) (2 ^ length codes) N.wires o
      → Judged o
  searched-judged none h = λ w l. level-equal w (h w l)
  searched-judged (some f) h =
      let d = h.differs in
      record {
        wire = h.wire;
        lower = λ w l. level-equal w (h.lower w l);
        breaks = λ e. d.other (equal-level f.wire e f.at d.at);
        at = d.at;
        smaller = λ s l. sym (d.smaller s l);
        other = λ e. d.other (sym e);
        base = d.base;
        own = d.own;
      }

  -- the answer is right
  pub leak-judged : (o : Option Found) → leak N codes ≡ o → Judged o
  unfolding leak
  leak-judged o e = subst Judged e (searched-judged (leak N codes)
      (search (base_at N codes) (count_at N codes) (2 ^ length codes) N.wires))

  -- no other answer is
  pub judged-leak : (o : Option Found) → Judged o → leak N codes ≡ o
  unfolding leak
  judged-leak o h = sym (search_is (base_at N codes) (count_at N codes) (2 ^ length codes) N.wires o
      (judged-searched o h))

  pub none-clean : leak N codes ≡ none → Clean N codes
  none-clean = leak-judged none

  pub clean-none : Clean N codes → leak N codes ≡ none
  clean-none = judged-leak none

  pub found-lowest : (f : Found) → leak N codes ≡ some f → LowestLeak N codes f
  found-lowest f = leak-judged (some f)

  pub lowest-found : (f : Found) → LowestLeak N codes f → leak N codes ≡ some f
  lowest-found f = judged-leak (some f)
