-- What the services of texts come to, by what is done with the newest texts.
use Rattle.std.proofs.Common.{◌≡◌, ℕ, ◌-◌, ◌≤◌, ◌<◌, true, false, if◌then◌else◌, List, length, drop, Option, Some, None, Result, Ok, Err, sym, ap, subst, ◌∙◌}
use Rattle.std.specs.Prelude.{◌==◌, ◌||◌}
use Rattle.std.specs.Result.{IsErr, IsErrAnd}
use Rattle.std.proofs.lemmas.Bool.{le-ltb, lt-ltb}
use Rattle.pli_typing.specs.Signatures.{LeafKind}
use Rattle.pli_meaning.specs.Codes.{conversion_code}
use Rattle.pli_serving.specs.Answers.{Answer, Done}
use Rattle.pli_serving.specs.Blocks.{are_texts}
use Rattle.pli_serving.specs.Finding.{Call}
use Rattle.pli_serving.specs.Outcomes.{bad_unless, becoming, on_text, or_bad, or_status, with_entries}
use Rattle.pli_serving.specs.ServiceState.{Entry}
use Rattle.pli_text.specs.Operands.{top_of, Gives}
use Rattle.pli_serving.specs.TextServices.{cut_served, kept_cut, part_cut, store_served, text_kind, text_measured, text_stored, to_number_served, word_in_text}
use Rattle.pli_text.specs.declared.fault.TextFault.{TextFault}
use Rattle.pli_text.specs.declared.fault.TextFault.TheVariants as T
use Rattle.pli_entries.specs.declared.fault.EntryFault.{EntryFault}
use Rattle.pli_entries.specs.declared.fault.EntryFault.TheVariants as F
use Rattle.pli_entries.specs.declared.kept.Aggregate.{Aggregate}
use Rattle.pli_entries.specs.Kept.{entries_of, ArePlaced}
use Rattle.pli_entries.specs.Served.{fault_of, IsRefusal, IsServed, word_told}
use Rattle.pli_entries.proofs.Stacks.{one_text, so_many}

-- entries as they are kept, of which so many on top are texts
pub record Shown (n : ℕ) (ts : List (List ℕ)) (held : List Aggregate) (old : List Entry) : Type 0 where
  pub placed : ArePlaced held (length ts)
  pub is : entries_of ts held ≡ old
  pub texts : are_texts n old ≡ true

texts_kept : (n : ℕ) (ts : List (List ℕ)) (held : List Aggregate) (old : List Entry) → Shown n ts held old → are_texts n (entries_of ts held) ≡ true
texts_kept n ts held old s = ap (are_texts n) s.is ∙ s.texts

pub enough : (n : ℕ) (ts : List (List ℕ)) (held : List Aggregate) (old : List Entry) → Shown n ts held old → n ≤ length ts
enough n ts held old s = so_many n ts held s.placed (texts_kept n ts held old s)

-- ---- the same answer

pub served_as : {V : Type 0} (c : Call) (x : ℕ) (a b : Answer) (done : V → Answer) (old new : List Entry) (result : Result V EntryFault) → a ≡ b → IsServed c x b done old new result → IsServed c x a done old new result
served_as c x a b done old new result e s = subst (λ answer. IsServed c x answer done old new result) (sym e) s

pub cut_part_is : (c : Call) (i j mode : ℕ) → mode < 2 → cut_served c i j mode ≡ part_cut c i j mode
cut_part_is c i j mode h = ap (λ b. if b then part_cut c i j mode else or_bad (text_kind (mode - 2) i) (kept_cut c i)) (lt-ltb mode 2 h)

pub cut_kept_is : (c : Call) (i j mode : ℕ) (kind : LeafKind) → 2 ≤ mode → Some kind ≡ text_kind (mode - 2) i → cut_served c i j mode ≡ kept_cut c i kind
cut_kept_is c i j mode kind h e =
    ap (λ b. if b then part_cut c i j mode else or_bad (text_kind (mode - 2) i) (kept_cut c i)) (le-ltb mode 2 h)
    ∙ ap (λ o. or_bad o (kept_cut c i)) (sym e)

pub measured_is : (c : Call) (at most mode : ℕ) → ((mode == 2) || (mode == 3)) ≡ true → store_served c at most mode ≡ text_measured c mode most
measured_is c at most mode h = ap (λ b. if b then text_measured c mode most else or_bad (text_kind mode most) (text_stored c at most)) h

pub stored_is : (c : Call) (at most mode : ℕ) (kind : LeafKind) → ((mode == 2) || (mode == 3)) ≡ false → Some kind ≡ text_kind mode most → store_served c at most mode ≡ text_stored c at most kind
stored_is c at most mode kind h e =
    ap (λ b. if b then text_measured c mode most else or_bad (text_kind mode most) (text_stored c at most)) h
    ∙ ap (λ o. or_bad o (text_stored c at most)) (sym e)

pub in_memory : (c : Call) (x y : ℕ) (a : Answer) (old new : List Entry) (result : Result ℕ EntryFault) (memory : List ℕ) → c.memory ≡ memory
    → IsServed c x a (λ length. becoming c (with_entries new c.services) length y) old new result
    → IsServed c x a (λ length. Done (with_entries new c.services) memory length y) old new result
in_memory c x y a old new result memory e s = subst (λ m. IsServed c x a (λ length. Done (with_entries new c.services) m length y) old new result) e s

pub number_is : (c : Call) (mode : ℕ) → mode < 2 → to_number_served c mode ≡ word_told c mode
number_is c mode h = ap (λ b. bad_unless b (word_told c mode)) (lt-ltb mode 2 h)

-- ---- a word that the newest text gives

on_one : (ts : List (List ℕ)) (held : List Aggregate) (es old : List Entry) (next : List ℕ → List Entry → Answer) → Shown 1 ts held old → es ≡ old → on_text es next ≡ next (top_of ts) (entries_of (drop 1 ts) held)
on_one ts held es old next s e = ap (λ l. on_text l next) (e ∙ (sym s.is ∙ one_text ts held s.placed (texts_kept 1 ts held old s)))

told : (c : Call) (mode : ℕ) (ts : List (List ℕ)) (held : List Aggregate) (old : List Entry) → Shown 1 ts held old → c.services.entries ≡ old
    → word_told c mode ≡ or_status c mode conversion_code (word_in_text mode (top_of ts)) (λ w. becoming c (with_entries (entries_of (drop 1 ts) held) c.services) w 0)
told c mode ts held old s e =
    on_one ts held c.services.entries old
    (λ t below. or_status c mode conversion_code (word_in_text mode t) (λ w. becoming c (with_entries below c.services) w 0))
    s e

pub told_ok : (c : Call) (mode number : ℕ) (ts new : List (List ℕ)) (held : List Aggregate) (old : List Entry) → Shown 1 ts held old → c.services.entries ≡ old → Gives (word_in_text mode (top_of ts)) ts (Ok number) new
    → word_told c mode ≡ becoming c (with_entries (entries_of new held) c.services) number 0
told_ok c mode number ts new held old s e g = told c mode ts held old s e ∙ go (word_in_text mode (top_of ts)) g
  where
    go : (o : Option ℕ) → Gives o ts (Ok number) new → or_status c mode conversion_code o (λ w. becoming c (with_entries (entries_of (drop 1 ts) held) c.services) w 0) ≡ becoming c (with_entries (entries_of new held) c.services) number 0
    go None h = let wrong = h.0 in absurd (cc)
    go (Some w) h =
        let right = h.0 in
        let same : w ≡ number = cc in
        ap (λ n. becoming c (with_entries (entries_of (drop 1 ts) held) c.services) n 0) same
        ∙ ap (λ l. becoming c (with_entries (entries_of l held) c.services) number 0) (sym h.1)

pub told_err : (c : Call) (mode : ℕ) (fault : TextFault) (is : EntryFault) (ts new : List (List ℕ)) (held : List Aggregate) (old : List Entry) → Shown 1 ts held old → c.services.entries ≡ old → Gives (word_in_text mode (top_of ts)) ts (Err fault) new → is ≡ fault_of fault
    → IsRefusal c mode (word_told c mode) is × (entries_of new held ≡ old)
told_err c mode fault is ts new held old s e g f = go (word_in_text mode (top_of ts)) g (told c mode ts held old s e)
  where
    go : (o : Option ℕ) → Gives o ts (Err fault) new → word_told c mode ≡ or_status c mode conversion_code o (λ w. becoming c (with_entries (entries_of (drop 1 ts) held) c.services) w 0)
        → IsRefusal c mode (word_told c mode) is × (entries_of new held ≡ old)
    go (Some w) h t = let wrong = h.0 in absurd (cc)
    go None h t =
        let right = h.0 in
        let same : fault ≡ T.NotNumber = cc in
        let status : is ≡ F.NotNumber = f ∙ ap fault_of same in
        (subst (IsRefusal c mode (word_told c mode)) (sym status) t, ap (λ l. entries_of l held) h.1 ∙ s.is)

pub told_residual : (c : Call) (mode : ℕ) (fault : TextFault) (done : ℕ → Answer) (ts new : List (List ℕ)) (held : List Aggregate) (old : List Entry) (result : Result ℕ EntryFault) → Shown 1 ts held old → c.services.entries ≡ old → Gives (word_in_text mode (top_of ts)) ts (Err fault) new
    → IsErr result × IsErrAnd result (λ is. is ≡ fault_of fault) → IsServed c mode (word_told c mode) done old (entries_of new held) result
told_residual c mode fault done ts new held old (Ok number) s e g r = absurd r.1
told_residual c mode fault done ts new held old (Err is) s e g r = told_err c mode fault is ts new held old s e g r.1
