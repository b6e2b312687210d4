-- The newest entry where that is a text, which is the newest text.
use Rattle.std.proofs.Common.{◌≡◌, false, ℕ, List, [], ◌∷◌, Some, None, refl, sym, ap, ◌∙◌}
use Rattle.pli_serving.specs.Blocks.{are_texts}
use Rattle.pli_serving.specs.ServiceState.{Entry, TextEntry, AggregateEntry}
use Rattle.pli_text.specs.Operands.{top_of}
use Rattle.pli_entries.specs.declared.kept.Aggregate.{Aggregate}
use Rattle.pli_entries.specs.Kept.{text_on_top}
use Rattle.pli_entries.proofs.Served.{Shown}
use Rattle.pli_entries.proofs.Stacks.{one_text}

pub no_text : (es : List Entry) → are_texts 1 es ≡ false → text_on_top es ≡ None
no_text [] e = refl
no_text (TextEntry t ∷ below) e = cc
no_text (AggregateEntry ls ∷ below) e = refl

pub top_is : (ts : List (List ℕ)) (held : List Aggregate) (old : List Entry) → Shown 1 ts held old →
    text_on_top old ≡ Some (top_of ts)
top_is ts held old s = ap text_on_top (sym s.is ∙ one_text ts held s.placed (ap (are_texts 1) s.is ∙ s.texts))
