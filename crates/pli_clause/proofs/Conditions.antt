-- Conditions: what is read is spelled so, and what is spelled is read.
use Rattle.std.proofs.Common.{◌≡◌, ◌<◌, List, length, Option, Some, None, refl, ap, ◌∙◌, arith, Ok}
use Rattle.pli_language.specs.declared.condition.Condition.{Condition}
use Rattle.pli_language.specs.declared.condition.Condition.TheVariants as C
use Rattle.pli_language.specs.declared.token.Word.{Word}
use Rattle.pli_language.specs.declared.token.Word.TheVariants as W
use Rattle.pli_language.specs.declared.token.Kind.TheVariants as K
use Rattle.pli_language.specs.declared.token.Token.{Token}
use Rattle.pli_language.specs.Marks.{Marks}
use Rattle.pli_language.specs.Spells.{Takes}
use Rattle.pli_language.specs.Heads as G
use Rattle.pli_language.specs.Heads.{SpellsCondition, plain_condition}
use Rattle.pli_phrase.specs.Cursor.{Cursor, ◌>>=◌}
use Rattle.pli_phrase.specs.Tokens.{taken}
use Rattle.pli_attributes.proofs.Posts.{Post, Never, post_ok, post_stuck, post_bind}
use Rattle.pli_attributes.proofs.Tokens.{TakenBy, taken_post, word_read}
use Rattle.pli_attributes.proofs.Lists.{Reads}
use Rattle.pli_attributes.proofs.Enclosed.{EnclosedBy, enclosed, enclosed_post, enclosed_read}
use Rattle.pli_attributes.proofs.Words.{unmarked}
use Rattle.pli_clause.specs.Reading.{plain_from, condition_behind, condition_from}
use Rattle.pli_clause.proofs.Parts.{word_post, word_taken}

abbrev ConditionBy : Cursor → Condition × Cursor → Type 0
ConditionBy c x = Reads (λ ts y rest. SpellsCondition ts y rest) unmarked c x

endfile_spelled : (c d : Cursor) (t : Token) (x : Token × Cursor) → Takes c.tokens (K.Name W.Endfile) t d.tokens → d.marks ≡ c.marks → length d.tokens < length c.tokens → EnclosedBy (TakenBy (K.Name W.Sysin)) d x → ConditionBy c (C.Endfile, x.1)
endfile_spelled c d t x a m l (enclosed o y u p i z) = record {
  spelled = G.endfile c.tokens d.tokens o.1.tokens y.1.tokens u.1.tokens t o.0 y.0 u.0 a p.take i.take z.take;
  marked = z.marked ∙ i.marked ∙ p.marked ∙ m;
  shorter = omega (arith, l, p.shorter, i.shorter, z.shorter);
}

module _ (c d : Cursor) (t : Token) (m : d.marks ≡ c.marks) (l : length d.tokens < length c.tokens) where
  plain_post : (word : Word) (o : Option Condition) → Takes c.tokens (K.Name word) t d.tokens → plain_condition word ≡ o → Post (ConditionBy c) Never (plain_from o d)
  plain_post word None a e = post_stuck
  plain_post word (Some x) a e = post_ok (record { spelled = G.plain c.tokens d.tokens t word x a e; marked = m; shorter = omega (arith, l) })

  behind_post : (word : Word) → Takes c.tokens (K.Name word) t d.tokens → Post (ConditionBy c) Never (condition_behind word d)
  behind_post W.Endfile a =
      post_bind _ _ (enclosed_post (taken (K.Name W.Sysin)) d (λ e. taken_post (K.Name W.Sysin) e)) (λ x k. post_ok (endfile_spelled c d t x a m l k))
  behind_post word a = plain_post word (plain_condition word) a refl

pub condition_post : (c : Cursor) → Post (Reads (λ ts y rest. SpellsCondition ts y rest) unmarked c) Never (condition_from c)
unfolding condition_from
condition_post c = post_bind _ _ (word_post c) (λ w k. behind_post c w.1 w.0.0 k.marked k.shorter w.0.1 k.take)

plain_word : (word : Word) (x : Condition) (c : Cursor) → plain_condition word ≡ Some x → condition_behind word c ≡ Ok (x, c)
plain_word W.Endfile x c p = absurd (cc p)
plain_word word x c p = ap (λ o. plain_from o c) p

pub condition_complete : {ts rest : List Token} {x : Condition} (m : Marks) → SpellsCondition ts x rest → condition_from (record { tokens = ts; marks = m }) ≡ Ok (x, record { tokens = rest; marks = m })
unfolding condition_from
condition_complete m (G.plain ts rest t word x a p) =
    ap (λ r. r >>= λ w. condition_behind w.0.1 w.1) (word_taken m a) ∙ plain_word word x (record { tokens = rest; marks = m }) p
condition_complete m (G.endfile ts after mid behind rest t u v w a o i z) =
    let e = enclosed_read (taken (K.Name W.Sysin)) v m m o (word_read W.Sysin m i) z in
    ap (λ r. r >>= λ y. condition_behind y.0.1 y.1) (word_taken m a) ∙ ap (λ r. r >>= λ x. Ok (C.Endfile, x.1)) e
