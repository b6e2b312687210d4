-- The same answer, and F and A by their widths.
use Rattle.std.proofs.Common.{◌≡◌, ℕ, List, Option, Some, Result, sym, ap, subst, ◌∙◌}
use Rattle.pli_meaning.specs.Streaming.{FormatItem, DataFormat, ControlFormat, FixedItem, TextItem}
use Rattle.pli_serving.specs.ServiceState.{EditPlace, Direction, Getting, Putting}
use Rattle.pli_serving.specs.Answers.{Answer}
use Rattle.pli_serving.specs.Finding.{Call}
use Rattle.pli_serving.specs.Edits.{fixed_by, text_by}
use Rattle.pli_answering.specs.Answering.{Answers, Replies}
use Rattle.pli_answering.specs.declared.reply.Reply.{Reply}
use Rattle.pli_answering.specs.declared.reply.Refusal.{Refusal}
use Rattle.pli_transmission.specs.Items.{fixed_width, text_width}
use Rattle.pli_transmission.specs.Transmitting.{fixed_of, text_of}

pub answers_as : (f g : Call → Answer) (c c' : Call) (r : Result Reply Refusal) → f c ≡ g c → Answers g c r c' → Answers f c r c'
answers_as f g c c' r e h = subst (λ (t : Answer). Replies t c.services c.memory r c'.services c'.memory) (sym e) h

fixed_some : (c : Call) (x y width : ℕ) (d : Direction) (i : FormatItem) (places : List EditPlace) → Some width ≡ fixed_width i → fixed_by c x y d i places ≡ fixed_of c x y d width places
fixed_some c x y width Getting (DataFormat (FixedItem w)) places e = let same : w ≡ width = cc in ap (λ n. fixed_of c x y Getting n places) same
fixed_some c x y width Putting (DataFormat (FixedItem w)) places e = let same : w ≡ width = cc in ap (λ n. fixed_of c x y Putting n places) same
fixed_some c x y width d (DataFormat (TextItem w)) places e = cc
fixed_some c x y width d (ControlFormat k) places e = cc

pub fixed_so : (c : Call) (x y width : ℕ) (d e : Direction) (i j : FormatItem) (places : List EditPlace) → d ≡ e → i ≡ j → Some width ≡ fixed_width j → fixed_by c x y d i places ≡ fixed_of c x y e width places
fixed_so c x y width d e i j places s t h =
    ap (λ k. fixed_by c x y d k places) t ∙ (fixed_some c x y width d j places h ∙ ap (λ k. fixed_of c x y k width places) s)

text_some : (c : Call) (x y : ℕ) (width : Option ℕ) (d : Direction) (i : FormatItem) (places : List EditPlace) → Some width ≡ text_width i → text_by c x y d i places ≡ text_of c x y d width places
text_some c x y width Getting (DataFormat (TextItem w)) places e = let same : w ≡ width = cc in ap (λ n. text_of c x y Getting n places) same
text_some c x y width Putting (DataFormat (TextItem w)) places e = let same : w ≡ width = cc in ap (λ n. text_of c x y Putting n places) same
text_some c x y width d (DataFormat (FixedItem w)) places e = cc
text_some c x y width d (ControlFormat k) places e = cc

pub text_so : (c : Call) (x y : ℕ) (width : Option ℕ) (d e : Direction) (i j : FormatItem) (places : List EditPlace) → d ≡ e → i ≡ j → Some width ≡ text_width j → text_by c x y d i places ≡ text_of c x y e width places
text_so c x y width d e i j places s t h =
    ap (λ k. text_by c x y d k places) t ∙ (text_some c x y width d j places h ∙ ap (λ k. text_of c x y k width places) s)
