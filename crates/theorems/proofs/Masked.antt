-- What Mask writes: by what an accepted call is made of.
use Prim.Native.Nat.{ℕ}
use mathlib.Core.Path.{◌≡◌, sym, ap, ◌∙◌, subst}
use mathlib.Core.List.{List}
use Rattle.netlist.specs.declared.Sizes.{Sizes}
use Rattle.netlist.specs.Netlist.{Netlist, source_limits, masked_limits}
use Rattle.netlist.specs.Outcome.{done}
use Rattle.netlist.specs.Read.{read_netlist}
use Rattle.masking.specs.Mask.{mask_netlist}
use Rattle.masking.specs.Leak.{Clean}
use Rattle.masking.specs.Unmask.{Unmasks}
use Rattle.masking.specs.Calls.{MaskedText}
use Rattle.netlist.proofs.Questions.{done-same}
use Rattle.netlist.proofs.Size.{reads-back, roomy-large, roomy-small}
use Rattle.masking.proofs.Masking.{outputs-unmask, counts-equal}
use Rattle.mask_rule.proofs.Made.{Made, made, made-back}
use Rattle.theorems.specs.Masked.{Accepted, MaskedReadsBack, MaskedIsClean, MaskedComputes, WrittenReadsBack}

module _ {s : Sizes} {N : Netlist} {codes wanted : List ℕ} {R : MaskedText} (A : Accepted s N codes wanted R) where
  abbrev made_of : Made s A.text codes wanted A.code_room R
  made_of = made s A.tables A.text codes wanted A.text_room A.code_room R A.made

  source-is : made_of.source ≡ N
  source-is = done-same made_of.source N (sym made_of.read ∙ A.read)

  back : read_netlist (masked_limits s) R.text ≡ done (mask_netlist N codes wanted).netlist
  back = rw source-is at (made-back made_of)

  -- the netlist that the text reads as is the masked one
  netlist-is : (M : Netlist) → read_netlist (masked_limits s) R.text ≡ done M
      → (mask_netlist N codes wanted).netlist ≡ M
  netlist-is M r = done-same (mask_netlist N codes wanted).netlist M (sym back ∙ r)

  clean : Clean (mask_netlist N codes wanted).netlist codes
  clean = rw source-is at (counts-equal made_of.inputs)

  codes-are : (mask_netlist N codes wanted).codes ≡ R.codes
  codes-are = rw source-is at (ap (λ (Q : MaskedText). Q.codes) made_of.same)

  computes : Unmasks N codes (mask_netlist N codes wanted).netlist R.codes
  computes =
      subst (Unmasks N codes (mask_netlist N codes wanted).netlist) codes-are
      (rw source-is at (outputs-unmask made_of.inputs))

pub masked-reads-back : MaskedReadsBack
masked-reads-back s N codes wanted R A = back A

pub masked-is-clean : MaskedIsClean
masked-is-clean s N M codes wanted R A r = subst (λ (Q : Netlist). Clean Q codes) (netlist-is A M r) (clean A)

pub masked-computes : MaskedComputes
masked-computes s N M codes wanted R A r =
    subst (λ (Q : Netlist). Unmasks N codes Q R.codes) (netlist-is A M r) (computes A)

pub written-reads-back : WrittenReadsBack
written-reads-back s N F = (λ W. reads-back (roomy-small s) N F W, λ W. reads-back (roomy-large s) N F W)
