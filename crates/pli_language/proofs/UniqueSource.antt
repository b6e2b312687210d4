-- A source is read one way: all its faults and its tree are the same in each reading.
use Rattle.std.proofs.Common.{◌≡◌, ◌≢◌, ◌⊎◌, inl, inr, ℕ, List, [], ◌∷◌, ◌++◌, Option, Some, refl, sym, ap, ◌∙◌, subst}
use Rattle.std.specs.Prelude.{Contains}
use Rattle.pli_language.specs.declared.expr.Place.{Place}
use Rattle.pli_language.specs.declared.fault.SourceFault.{SourceFault}
use Rattle.pli_language.specs.declared.fault.SourceKind.TheVariants.{LeftOut}
use Rattle.pli_language.specs.declared.token.Token.{Token}
use Rattle.pli_language.specs.Heads.{Head, Else, SpellsHead, LeavesOut}
use Rattle.pli_language.specs.Marks.{Marks, no_marks, fault_at}
use Rattle.pli_language.specs.Nesting.{Nest, outermost, entered, settled, misplaced, nest_faults, items_of_list}
use Rattle.pli_language.specs.Parsing as G
use Rattle.pli_language.specs.Parsing.{label_ahead, SpellsLabels, faults_of, syntax_at, end_of, BeginsHead, BeginsLeftOut, MayGoOn, IsRefusedAt, IsMisplacedAt, Reads, Spells, RefusesTokens}
use Rattle.pli_language.specs.Spells.{name_at, place_of}
use Rattle.pli_language.specs.Tree.{Name, Tree}
use Rattle.pli_language.proofs.Unique.{Same}
use Rattle.pli_language.proofs.Least.{none_among}
use Rattle.pli_language.proofs.UniqueHeads.{head_some, head_same}
use Rattle.pli_language.proofs.UniqueLeftOut.{left_out_same, left_out_some, no_head}

-- ---- labels

pub labels_same : {s : List ℕ} {ts ts' r r' : List Token} {x x' : List Name} → ts ≡ ts' → SpellsLabels s ts x r → SpellsLabels s ts' x' r' → Same x x' r r'
labels_same k (G.no_label ts stop) (G.no_label ts' stop') = record { value = refl; rest = k }
labels_same k (G.no_label ts stop) (G.label ts' after rest t u word ls is go more) = absurd (cc (ap label_ahead k, stop, go))
labels_same k (G.label ts after rest t u word ls is go more) (G.no_label ts' stop) = absurd (cc (ap label_ahead k, stop, go))
labels_same {s} k (G.label ts after rest t u word ls is go more) (G.label ts' after' rest' t' u' word' ls' is' go' more') =
    let shape : t ∷ u ∷ after ≡ t' ∷ u' ∷ after' = sym is ∙ (k ∙ is') in
    let a : after ≡ after' = cc (shape) in
    let token : t ≡ t' = cc (shape) in
    let w : word ≡ word' = cc (ap label_ahead k, go, go') in
    let f = labels_same a more more' in
    let name : name_at s t word ≡ name_at s t' word' = cc (ap (name_at s) token, w) in
    let value : name_at s t word ∷ ls ≡ name_at s t' word' ∷ ls' = cc (name, f.value) in
    record { value = value; rest = f.rest }

-- ---- what stands behind the labels

data Stage : Type 0 where
  AtEnd AtHead AtLeftOut AtNeither : Stage

data Stands (s : List ℕ) (ts : List Token) : Stage → Type 0 where
  ended : ts ≡ [] → Stands s ts AtEnd
  a_head : (h : Head) (rest : List Token) (m : Marks) → SpellsHead s ts no_marks h rest m → Stands s ts AtHead
  a_left_out : (rest : List Token) (m : Marks) → LeavesOut s ts no_marks rest m → Stands s ts AtLeftOut
  neither : (t : Token) (rest : List Token) → ts ≡ t ∷ rest → ¬ BeginsHead s ts → ¬ BeginsLeftOut s ts → Stands s ts AtNeither

head_along : {s : List ℕ} {ts ts' rest : List Token} {h : Head} {m : Marks} → ts ≡ ts' → SpellsHead s ts no_marks h rest m → BeginsHead s ts'
head_along {s} {rest = rest} {h = h} {m = m} e d = (h, rest, m, subst (λ u. SpellsHead s u no_marks h rest m) e d)

left_out_along : {s : List ℕ} {ts ts' rest : List Token} {m : Marks} → ts ≡ ts' → LeavesOut s ts no_marks rest m → BeginsLeftOut s ts'
left_out_along {s} {rest = rest} {m = m} e d = (rest, m, subst (λ u. LeavesOut s u no_marks rest m) e d)

stands_once : {s : List ℕ} {ts ts' : List Token} {f f' : Stage} → ts ≡ ts' → Stands s ts f → Stands s ts' f' → f ≡ f'
stands_once k (Stands.ended e) (Stands.ended e') = refl
stands_once k (Stands.ended e) (Stands.a_head h rest m of) = absurd (head_some of (sym k ∙ e))
stands_once k (Stands.ended e) (Stands.a_left_out rest m of) = absurd (left_out_some of (sym k ∙ e))
stands_once k (Stands.ended e) (Stands.neither t rest is no_h no_l) = absurd (cc (k, e, is))
stands_once k (Stands.a_head h rest m of) (Stands.ended e) = absurd (head_some of (k ∙ e))
stands_once k (Stands.a_head h rest m of) (Stands.a_head h' rest' m' of') = refl
stands_once k (Stands.a_head h rest m of) (Stands.a_left_out rest' m' of') = absurd (no_head (sym k) of' of)
stands_once k (Stands.a_head h rest m of) (Stands.neither t rest' is no_h no_l) = absurd (no_h (head_along k of))
stands_once k (Stands.a_left_out rest m of) (Stands.ended e) = absurd (left_out_some of (k ∙ e))
stands_once k (Stands.a_left_out rest m of) (Stands.a_head h' rest' m' of') = absurd (no_head k of of')
stands_once k (Stands.a_left_out rest m of) (Stands.a_left_out rest' m' of') = refl
stands_once k (Stands.a_left_out rest m of) (Stands.neither t rest' is no_h no_l) = absurd (no_l (left_out_along k of))
stands_once k (Stands.neither t rest is no_h no_l) (Stands.ended e) = absurd (cc (k, e, is))
stands_once k (Stands.neither t rest is no_h no_l) (Stands.a_head h' rest' m' of') = absurd (no_h (head_along (sym k) of'))
stands_once k (Stands.neither t rest is no_h no_l) (Stands.a_left_out rest' m' of') = absurd (no_l (left_out_along (sym k) of'))
stands_once k (Stands.neither t rest is no_h no_l) (Stands.neither t' rest' is' no_h' no_l') = refl

-- the labels of a reading, and what stands behind them
record Behind (s : List ℕ) (ts : List Token) (f : Stage) : Type 0 where
  labels : List Name
  mid : List Token
  spelled : SpellsLabels s ts labels mid
  stands : Stands s mid f

stage : {s : List ℕ} {n : Nest} {ts : List Token} {fs : List SourceFault} {tree : Option Tree} → Reads s n ts fs tree → Stage
stage (G.all_read n closed) = AtEnd
stage (G.too_early n ts ls labels open_yet) = AtEnd
stage (G.head n next ts mid rest ls h m fs tree labels of enters more) = AtHead
stage (G.misplaced_head n ts mid rest ls h m t p labels of enters_none at) = AtHead
stage (G.left_out n ts mid rest ls m t labels of) = AtLeftOut
stage (G.no_head n ts mid ls t p labels no_h no_l at) = AtNeither

behind : {s : List ℕ} {n : Nest} {ts : List Token} {fs : List SourceFault} {tree : Option Tree} → (d : Reads s n ts fs tree) → Behind s ts (stage d)
unfolding stage
behind (G.all_read n closed) = record { labels = []; mid = []; spelled = G.no_label [] refl; stands = Stands.ended refl }
behind (G.too_early n ts ls labels open_yet) = record { labels = ls; mid = []; spelled = labels; stands = Stands.ended refl }
behind (G.head n next ts mid rest ls h m fs tree labels of enters more) = record { labels = ls; mid = mid; spelled = labels; stands = Stands.a_head h rest m of }
behind (G.misplaced_head n ts mid rest ls h m t p labels of enters_none at) = record { labels = ls; mid = t ∷ mid; spelled = labels; stands = Stands.a_head h rest m of }
behind (G.left_out n ts mid rest ls m t labels of) = record { labels = ls; mid = mid; spelled = labels; stands = Stands.a_left_out (t ∷ rest) m of }
behind (G.no_head n ts mid ls t p labels no_h no_l at) = record { labels = ls; mid = t ∷ mid; spelled = labels; stands = Stands.neither t mid refl no_h no_l }

stages_same : {s : List ℕ} {n n' : Nest} {ts ts' : List Token} {fs fs' : List SourceFault} {tree tree' : Option Tree} → ts ≡ ts' → (d : Reads s n ts fs tree) → (d' : Reads s n' ts' fs' tree') → stage d ≡ stage d'
stages_same k d d' =
    let a = behind d in
    let a' = behind d' in
    stands_once (labels_same k a.spelled a'.spelled).rest a.stands a'.stands

-- ---- readings

goes_along : {s : List ℕ} {n n' : Nest} {ls ls' : List Name} {ts ts' : List Token} → n ≡ n' → ls ≡ ls' → ts ≡ ts' → MayGoOn s n ls ts → MayGoOn s n' ls' ts'
goes_along {s} {n} {n'} {ls} {ls'} {ts} {ts'} e f g a =
    subst (λ u. MayGoOn s u ls' ts') e (subst (λ u. MayGoOn s n u ts') f (subst (λ u. MayGoOn s n ls u) g a))

-- a head is refused at one place
refused_once : {s : List ℕ} {n n' : Nest} {ls ls' : List Name} {t t' : Token} {mid mid' : List Token} {p p' : Place} → n ≡ n' → ls ≡ ls' → t ≡ t' → mid ≡ mid' → IsRefusedAt s n ls t mid p → IsRefusedAt s n' ls' t' mid' p' → p ≡ p'
refused_once e f g h (inl a) (inl a') = cc (a.1, a'.1)
refused_once {t = t} {t' = t'} {mid = mid} {mid' = mid'} e f g h (inl a) (inr a') =
    let same : t ∷ mid ≡ t' ∷ mid' = cc (g, h) in
    absurd (a'.0 (goes_along e f same a.0))
refused_once {t = t} {t' = t'} {mid = mid} {mid' = mid'} e f g h (inr a) (inl a') =
    let same : t' ∷ mid' ≡ t ∷ mid = cc (g, h) in
    absurd (a.0 (goes_along (sym e) (sym f) same a'.0))
refused_once e f g h (inr a) (inr a') = cc (a.1, a'.1, ap place_of g)

one_place : (s : List ℕ) {n n' : Nest} {ls ls' : List Name} {t t' : Token} {mid mid' : List Token} {p p' : Place} (h : Head) → n ≡ n' → ls ≡ ls' → t ≡ t' → mid ≡ mid' → IsMisplacedAt s n ls h t mid p → IsMisplacedAt s n' ls' h t' mid' p' → p ≡ p'
one_place s (Else q) e f g k a b = refused_once e f g k a b
one_place s _ e f g k a b = cc (a, b, ap place_of g)

-- a head that may not stand is refused at one place
misplaced_once : (s : List ℕ) {n n' : Nest} {ls ls' : List Name} {t t' : Token} {mid mid' : List Token} {p p' : Place} {h h' : Head} → h ≡ h' → n ≡ n' → ls ≡ ls' → t ≡ t' → mid ≡ mid' → IsMisplacedAt s n ls h t mid p → IsMisplacedAt s n' ls' h' t' mid' p' → p ≡ p'
misplaced_once s {n' = n'} {ls' = ls'} {t' = t'} {mid' = mid'} {p' = p'} {h = h} i e f g k a b =
    one_place s h e f g k a (subst (λ u. IsMisplacedAt s n' ls' u t' mid' p') (sym i) b)

pub record SameReading (fs fs' : List SourceFault) (x x' : Option Tree) : Type 0 where
  pub faults : fs ≡ fs'
  pub tree : x ≡ x'

prepended : {a a' fs fs' : List SourceFault} → a ≡ a' → fs ≡ fs' → a ++ fs ≡ a' ++ fs'
prepended e f = cc (e, f)

one_fault : Place → List SourceFault
one_fault p = syntax_at p ∷ []

misplaced_same : {n n' : Nest} {ls ls' : List Name} {p p' : Place} → n ≡ n' → ls ≡ ls' → p ≡ p' → one_fault (misplaced (settled n.frames) ls p) ≡ one_fault (misplaced (settled n'.frames) ls' p')
misplaced_same {n} {n'} {ls} {ls'} {p} {p'} e f g =
    let frames : settled n.frames ≡ settled n'.frames = ap (λ u. settled u.frames) e in
    ap one_fault (cc (ap misplaced frames, f, g))

-- nothing is left open where all is read
nothing_open : {s : List ℕ} {n n' : Nest} {ts : List Token} {ls : List Name} → n ≡ n' → n.frames ≡ [] → [] ≡ ts → SpellsLabels s ts ls [] → (n'.frames ≢ []) ⊎ (ls ≢ []) → ⊥
nothing_open {n = n} {n' = n'} e closed k labels left =
    let f = labels_same k (G.no_label [] refl) labels in
    elim left [
      | inl frames ↦ frames (sym (ap (λ u. u.frames) e) ∙ closed)
      | inr some ↦ some (sym f.value)
    ]

pub reads_same : {s : List ℕ} {n n' : Nest} {ts ts' : List Token} {fs fs' : List SourceFault} {tree tree' : Option Tree} → n ≡ n' → ts ≡ ts' → Reads s n ts fs tree → Reads s n' ts' fs' tree' → SameReading fs fs' tree tree'
unfolding stage one_fault
reads_same e k (G.all_read n closed) (G.all_read n' closed') =
    record { faults = refl; tree = ap (λ u. Some (record { procedures = items_of_list u.outer })) e }
reads_same e k (G.all_read n closed) (G.too_early n' ts' ls' labels' open_yet') =
    absurd (nothing_open e closed k labels' open_yet')
reads_same e k (G.too_early n ts ls labels open_yet) (G.all_read n' closed') =
    absurd (nothing_open (sym e) closed' (sym k) labels open_yet)
reads_same e k (G.too_early n ts ls labels open_yet) (G.too_early n' ts' ls' labels' open_yet') =
    let f = labels_same k labels labels' in
    record { faults = misplaced_same e f.value refl; tree = refl }
reads_same e k (G.head n next ts mid rest ls h m fs tree labels of enters more) (G.head n' next' ts' mid' rest' ls' h' m' fs' tree' labels' of' enters' more') =
    let f = labels_same k labels labels' in
    let g = head_same f.rest refl of of' in
    let there : entered n ls h ≡ entered n' ls' h' = cc (ap entered e, f.value, g.value) in
    let onward : next ≡ next' = cc (there, enters, enters') in
    let r = reads_same onward g.rest more more' in
    let broken : faults_of mid rest m ≡ faults_of mid' rest' m' = cc (ap faults_of f.rest, g.rest, g.marks) in
    let frames : settled n.frames ≡ settled n'.frames = ap (λ u. settled u.frames) e in
    let nested : nest_faults (settled n.frames) h ≡ nest_faults (settled n'.frames) h' = cc (ap nest_faults frames, g.value) in
    record { faults = prepended broken (prepended nested r.faults); tree = r.tree }
reads_same e k (G.head n next ts mid rest ls h m fs tree labels of enters more) (G.misplaced_head n' ts' mid' rest' ls' h' m' t' p' labels' of' enters_none' at') =
    let f = labels_same k labels labels' in
    let g = head_same f.rest refl of of' in
    let there : entered n ls h ≡ entered n' ls' h' = cc (ap entered e, f.value, g.value) in
    absurd (cc (there, enters, enters_none'))
reads_same e k (G.misplaced_head n ts mid rest ls h m t p labels of enters_none at) (G.head n' next' ts' mid' rest' ls' h' m' fs' tree' labels' of' enters' more') =
    let f = labels_same k labels labels' in
    let g = head_same f.rest refl of of' in
    let there : entered n ls h ≡ entered n' ls' h' = cc (ap entered e, f.value, g.value) in
    absurd (cc (there, enters_none, enters'))
reads_same {s} e k (G.misplaced_head n ts mid rest ls h m t p labels of enters_none at) (G.misplaced_head n' ts' mid' rest' ls' h' m' t' p' labels' of' enters_none' at') =
    let f = labels_same k labels labels' in
    let g = head_same f.rest refl of of' in
    let place : p ≡ p' = misplaced_once s g.value e f.value (cc (f.rest)) (cc (f.rest)) at at' in
    record { faults = misplaced_same e f.value place; tree = refl }
reads_same e k (G.left_out n ts mid rest ls m t labels of) (G.left_out n' ts' mid' rest' ls' m' t' labels' of') =
    let f = labels_same k labels labels' in
    let g = left_out_same f.rest refl of of' in
    let token : t ≡ t' = cc (g.rest) in
    let broken : faults_of mid (t ∷ rest) m ≡ faults_of mid' (t' ∷ rest') m' = cc (ap faults_of f.rest, g.rest, g.marks) in
    record { faults = prepended broken (ap (λ u. fault_at (place_of u) LeftOut ∷ []) token); tree = refl }
reads_same e k (G.no_head n ts mid ls t p labels no_h no_l at) (G.no_head n' ts' mid' ls' t' p' labels' no_h' no_l' at') =
    let f = labels_same k labels labels' in
    let place : p ≡ p' = refused_once e f.value (cc (f.rest)) (cc (f.rest)) at at' in
    record { faults = misplaced_same e f.value place; tree = refl }
reads_same e k d d' = absurd (cc (stages_same k d d'))

-- ---- trees

-- a source is read one way
pub read_same : {s : List ℕ} {ts : List Token} {fs fs' : List SourceFault} {tree tree' : Option Tree} → Reads s outermost ts fs tree → Reads s outermost ts fs' tree' → (fs ≡ fs') × (tree ≡ tree')
read_same a b =
    let r = reads_same refl refl a b in
    (r.faults, r.tree)

-- the tokens of a source spell at most one tree
pub spelled_once : {s : List ℕ} {ts : List Token} {x x' : Tree} → Spells s ts x → Spells s ts x' → x ≡ x'
spelled_once {x = x} {x' = x'} a b =
    let e : Some x ≡ Some x' = (reads_same refl refl a b).tree in
    cc e

-- and no refusal
pub never_both : {s : List ℕ} {ts : List Token} {x : Tree} {f : SourceFault} → Spells s ts x → RefusesTokens s ts f → ⊥
never_both {f = f} a b =
    let r = reads_same refl refl a b.read in
    none_among f (subst (λ u. Contains u f) (sym r.faults) b.least.among)
