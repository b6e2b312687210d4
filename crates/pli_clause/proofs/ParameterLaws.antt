-- Parameters: what is read is spelled so, and what is spelled is read.
use Rattle.std.proofs.Common.{◌≡◌, ℕ, suc, ◌≤◌, List, [], ◌∷◌, length, refl, sym, ap, ◌∙◌, subst, arith, Ok}
use Rattle.std.specs.Prelude.{nat_le}
use Rattle.pli_language.specs.declared.fault.SourceKind.TheVariants.{TooLarge}
use Rattle.pli_language.specs.declared.token.Word.{Word}
use Rattle.pli_language.specs.declared.token.Kind.TheVariants as K
use Rattle.pli_language.specs.declared.token.Token.{Token}
use Rattle.pli_language.specs.Marks.{Marks, note_if}
use Rattle.pli_language.specs.Spells.{Takes, name_at}
use Rattle.pli_language.specs.Heads as G
use Rattle.pli_language.specs.Heads.{SpellsNames, SpellsParameters, most_parameters, parameters_marks}
use Rattle.pli_language.specs.Tree as T
use Rattle.pli_phrase.specs.Cursor.{Cursor}
use Rattle.pli_attributes.proofs.Posts.{Post, Never, post_weaken}
use Rattle.pli_attributes.proofs.Tokens.{name_post, name_read}
use Rattle.pli_attributes.proofs.Lists.{Reads, Listed, one, further, list_marks, list_post, list_complete}
use Rattle.pli_attributes.proofs.Enclosed.{EnclosedBy, enclosed, optional_post, optional_read, optional_absent}
use Rattle.pli_clause.specs.Reading.{parameter_at, parameter_due, one_parameter, names_from, parameters_from}

-- a name at the first token
pub data SpellsName (s : List ℕ) : List Token → T.Name → List Token → Type 0 where
  named : (ts rest : List Token) (t : Token) (word : Word) → Takes ts (K.Name word) t rest → SpellsName s ts (name_at s t word) rest

abbrev pub parameter_marks : ℕ → T.Name → Marks → Marks
parameter_marks before n m = note_if (nat_le most_parameters before) n.place TooLarge m

parameter_first : (s : List ℕ) (i : ℕ) {ts rest : List Token} {t : Token} {word : Word} (m : Marks) → Takes ts (K.Name word) t rest → parameter_at i ts m ≡ parameter_marks i (name_at s t word) m
parameter_first s i m a = ap (λ u. parameter_at i u m) a.is

pub one_parameter_post : (s : List ℕ) (i : ℕ) (c : Cursor) → Post (Reads (SpellsName s) (parameter_marks i) c) Never (one_parameter s i c)
one_parameter_post s i c =
    post_weaken _ (name_post s (parameter_due i c)) (λ x k. record { spelled = subst (λ n. SpellsName s c.tokens n x.1.tokens) (sym k.is) (named c.tokens x.1.tokens k.token k.word k.take); marked = k.marked ∙ parameter_first s i c.marks k.take ∙ ap (λ n. parameter_marks i n c.marks) (sym k.is); shorter = omega (arith, k.shorter) }) (λ at l. l)

one_parameter_complete : (s : List ℕ) (i : ℕ) (ts rest : List Token) (x : T.Name) (m : Marks) → SpellsName s ts x rest → one_parameter s i (record { tokens = ts; marks = m }) ≡ Ok (x, record { tokens = rest; marks = parameter_marks i x m })
one_parameter_complete s i ts rest x m (named ts' rest' t word a) =
    name_read s (parameter_at i ts m) a ∙ ap (λ k. Ok (name_at s t word, record { tokens = rest; marks = k })) (parameter_first s i m a)

name_shorter : {s : List ℕ} {ts rest : List Token} {x : T.Name} → SpellsName s ts x rest → length rest ≤ length ts
name_shorter (named ts rest t word a) = omega (arith, ap length a.is)

names_listed : {s : List ℕ} {ts rest : List Token} {ns : List T.Name} → Listed (SpellsName s) ts ns rest → SpellsNames s ts ns rest
names_listed (one ts rest x (named ts' rest' t word a) n) = G.one_name ts rest t word a n
names_listed (further ts mid after rest t x xs (named ts' mid' u word a) k others) = G.further_names ts mid after rest u t word xs a k (names_listed others)

listed_names : {s : List ℕ} {ts rest : List Token} {ns : List T.Name} → SpellsNames s ts ns rest → Listed (SpellsName s) ts ns rest
listed_names {s} (G.one_name ts rest t word a n) = one ts rest (name_at s t word) (named ts rest t word a) n
listed_names {s} (G.further_names ts mid after rest t u word ns a k others) = further ts mid after rest u (name_at s t word) ns (named ts mid t word a) k (listed_names others)

names_marked : (i : ℕ) (ns : List T.Name) (m : Marks) → list_marks parameter_marks i ns m ≡ parameters_marks i ns m
names_marked i [] m = refl
names_marked i (n ∷ ns) m = names_marked (suc i) ns (parameter_marks i n m)

names_post : (s : List ℕ) (c : Cursor) → Post (Reads (SpellsNames s) (parameters_marks 0) c) Never (names_from s c)
unfolding names_from
names_post s c =
    post_weaken _ (list_post (one_parameter s) (SpellsName s) parameter_marks (λ d. Never) (one_parameter_post s) (λ i d x comma at g k l. l) c) (λ x r. record { spelled = names_listed r.spelled; marked = r.marked ∙ names_marked 0 x.0 c.marks; shorter = r.shorter }) (λ at l. l)

names_complete : {s : List ℕ} {ts rest : List Token} {ns : List T.Name} (m : Marks) → SpellsNames s ts ns rest → names_from s (record { tokens = ts; marks = m }) ≡ Ok (ns, record { tokens = rest; marks = parameters_marks 0 ns m })
unfolding names_from
names_complete {s} {ts} {rest} {ns} m h =
    list_complete (one_parameter s) (SpellsName s) parameter_marks (one_parameter_complete s) (λ ts rest x h. name_shorter h) ts rest ns m (listed_names h) ∙ ap (λ k. Ok (ns, record { tokens = rest; marks = k })) (names_marked 0 ns m)

parameters_enclosed : (s : List ℕ) (c : Cursor) (x : List T.Name × Cursor) → EnclosedBy (Reads (SpellsNames s) (parameters_marks 0)) c x → Reads (SpellsParameters s) (parameters_marks 0) c x
parameters_enclosed s c x (enclosed t y u o r z) = record {
  spelled = G.parameters c.tokens t.1.tokens y.1.tokens u.1.tokens t.0 u.0 y.0 o.take r.spelled z.take;
  marked = z.marked ∙ r.marked ∙ ap (parameters_marks 0 y.0) o.marked;
  shorter = omega (arith, o.shorter, r.shorter, z.shorter);
}

pub parameters_post : (s : List ℕ) (c : Cursor) → Post (Reads (SpellsParameters s) (parameters_marks 0) c) Never (parameters_from s c)
unfolding parameters_from
parameters_post s c =
    optional_post [] (names_from s) c (names_post s) (λ n. record { spelled = G.no_parameter c.tokens n; marked = refl; shorter = omega arith }) (λ x k. parameters_enclosed s c x k)

pub parameters_complete : {s : List ℕ} {ts rest : List Token} {ns : List T.Name} (m : Marks) → SpellsParameters s ts ns rest → parameters_from s (record { tokens = ts; marks = m }) ≡ Ok (ns, record { tokens = rest; marks = parameters_marks 0 ns m })
unfolding parameters_from
parameters_complete {s} m (G.no_parameter ts n) = optional_absent [] (names_from s) ts m n
parameters_complete {s} m (G.parameters ts after mid rest t u ns o h z) = optional_read [] (names_from s) ns m (parameters_marks 0 ns m) o (names_complete m h) z
