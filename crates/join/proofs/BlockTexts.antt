-- Texts of masked blocks: what Mask returns is one, and what a call that joins two of them returns is one.
use Prim.Native.Nat.{ℕ}
use mathlib.Core.Path.{◌≡◌, sym, ap, ◌∙◌, subst}
use mathlib.Core.Bool.{Bool, ◌&&◌}
use mathlib.Core.List.{List}
use lib.Dec.{T}
use lib.ListN.{drop}
use Rattle.netlist.specs.declared.Limits.{Limits}
use Rattle.netlist.specs.declared.Sizes.{Sizes}
use Rattle.netlist.specs.Lists.{every, same_bytes}
use Rattle.netlist.specs.Netlist.{Netlist, input_bits, output_bits, source_limits, masked_limits}
use Rattle.netlist.specs.Outcome.{Outcome, done, ask, and_then}
use Rattle.netlist.specs.Text.{word_lines}
use Rattle.netlist.specs.Read.{opening, read_gates, read_netlist}
use Rattle.netlist.specs.Write.{write_netlist}
use Rattle.netlist.specs.Eval.{outputs_of}
use Rattle.masking.specs.Mask.{is_input_code, is_wanted, mask_netlist}
use Rattle.netlist.specs.Services.{tables_long, list_good, holds}
use Rattle.masking.specs.Calls.{MaskedText, masked_text, deliver_outcome, mask_outcome, mask_call}
use Rattle.netlist.proofs.Tests.{is_true, same-equal}
use Rattle.netlist.proofs.Questions.{done-same, some_same, ask-done, and_then-done}
use Rattle.masking.proofs.MaskInputs.{MaskInputs, mask-inputs}
use Rattle.netlist.proofs.Accepted.{opened, accepted}
use Rattle.masking.proofs.MaskedText.{masked-reads}
use Rattle.netlist.proofs.Size.{roomy-large}
use Rattle.join.specs.Join.{join}
use Rattle.join.specs.Call.{is_secret, join_call}
use Rattle.join.specs.Block.{Block, BlockText, FromMask}
use Rattle.join.proofs.Blocks.{masked-block, joined-block}
use Rattle.join.proofs.Calls.{joined, joined-reads}

-- the result of an accepted call of Mask
made-text : (s : Sizes) (N : Netlist) (tables source codes wanted : List ℕ) (text_room code_room : ℕ) (R : MaskedText)
    → read_netlist (source_limits s) source ≡ done N
    → mask_call (source_limits s) tables source codes wanted text_room code_room ≡ done R → MaskInputs N codes wanted
    × (masked_text (mask_netlist N codes wanted) ≡ R)
unfolding mask_call
made-text s N tables source codes wanted text_room code_room R r e =
    let k₁ = ask-done 1 (tables_long (source_limits s) tables)
    (and_then (read_netlist (source_limits s) source) (mask_outcome codes wanted text_room code_room)) R e in
    let e₂ : mask_outcome codes wanted text_room code_room N ≡ done R
    = sym (ap (λ (o : Outcome Netlist). and_then o (mask_outcome codes wanted text_room code_room)) r) ∙ k₁.1 in
    let T₀ = masked_text (mask_netlist N codes wanted) in
    let k₁₁ = ask-done 11 (list_good is_input_code (input_bits N) codes)
    (ask 13 (list_good is_wanted (output_bits N) wanted) (deliver_outcome text_room code_room T₀)) R e₂ in
    let k₁₃ = ask-done 13 (list_good is_wanted (output_bits N) wanted) (deliver_outcome text_room code_room T₀) R k₁₁.1
    in
    let k₁₄ = ask-done 14 (holds text_room T₀.text && holds code_room T₀.codes) (done T₀) R k₁₃.1 in
    (mask-inputs (accepted (source_limits s) source N r).formed k₁₁.0 k₁₃.0, done-same T₀ R k₁₄.1)

-- two readings of a text give one netlist, whatever their limits
read-once : (L K : Limits) (t : List ℕ) (N M : Netlist) → read_netlist L t ≡ done N → read_netlist K t ≡ done M → N ≡ M
unfolding read_netlist
read-once L K t N M p q =
    let ls = drop 3 (word_lines t) in
    let a = and_then-done (opening L t) (read_gates ls) N p in
    let b = and_then-done (opening K t) (read_gates ls) M q in
    let h : a.0 ≡ b.0 = some_same a.0 b.0 (sym (opened L t a.0 a.1).lines ∙ (opened K t b.0 b.1).lines) in
    done-same N M (sym a.2 ∙ ap (read_gates ls) h ∙ b.2)

-- a text from Mask that is read is that of a block of its source
pub mask-text : {s : Sizes} {N A : Netlist} {codes text out_codes : List ℕ} → FromMask N codes text out_codes
    → read_netlist (masked_limits s) text ≡ done A
    → BlockText s (outputs_of N) codes text out_codes
mask-text {s} {N} {A} {codes} {text} {out_codes} F r =
    let wanted = F.wanted in
    let k = made-text F.sizes N F.tables F.source codes wanted F.text_room F.code_room _ F.read F.made in
    let M = mask_netlist N codes wanted in
    let t : write_netlist M.netlist ≡ text = ap (λ (R : MaskedText). R.text) k.1 in
    let c : M.codes ≡ out_codes = ap (λ (R : MaskedText). R.codes) k.1 in
    let m : read_netlist (masked_limits F.sizes) text ≡ done M.netlist
    = ap (read_netlist (masked_limits F.sizes)) (sym t) ∙ masked-reads F.sizes k.0
    (accepted (source_limits F.sizes) F.source N F.read).within in
    let z : M.netlist ≡ A = read-once (masked_limits F.sizes) (masked_limits s) text M.netlist A m r in
    let b : Block (outputs_of N) codes M.netlist out_codes = subst (Block (outputs_of N) codes M.netlist) c
    (masked-block k.0) in
    record { netlist = A; read = r; block = subst (λ (B : Netlist). Block (outputs_of N) codes B out_codes) z b }

-- the joined text of two blocks' texts is that of a block of the second's function after the first's
pub join-text : {s : Sizes} {f g : List Bool → List Bool} {first codes middle second codes' out_codes out : List ℕ}
    (tables : List ℕ) (room : ℕ)
    → BlockText s f codes first middle → BlockText s g codes' second out_codes → join_call (masked_limits s) tables
    first codes middle second codes' room ≡ done out
    → BlockText s (λ x. g (f x)) codes out out_codes
join-text {s} {f} {g} {first} {codes} {middle} {second} {codes'} {out_codes} {out} tables room K L e =
    let J = joined (masked_limits s) tables first codes middle second codes' room out e in
    let a : K.netlist ≡ J.A = done-same K.netlist J.A (sym K.read ∙ J.one.read) in
    let b : L.netlist ≡ J.B = done-same L.netlist J.B (sym L.read ∙ J.two.read) in
    let m : middle ≡ codes' = same-equal middle codes' (is_true (same_bytes middle codes') J.seam.same) in
    let secret : T (every is_secret middle) = rw m J.seam.secret in
    record {
      netlist = join J.A J.B;
      read = joined-reads (masked_limits s) tables first codes middle second codes' room (roomy-large s) J;
      block = joined-block (rw a at K.block) (rw (← m, b) at L.block) secret;
    }
