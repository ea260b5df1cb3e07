-- A call by its line and its body.
use Rattle.std.proofs.Common.{◌≡◌, ℕ, ◌-◌, ◌^◌, ◌<◌, ◌≤◌, true, List, [], ◌∷◌, ◌++◌, length, get_or, take, drop, codes, decimal, sym, refl, ap, ◌∙◌, subst, arith}
use Rattle.std.specs.List.{AllByRecursion}
use Rattle.std.proofs.ByRecursion.{All-push}
use Rattle.std.proofs.lemmas.Fmt.{decimal_injective}
use Rattle.std.proofs.lemmas.List.Prefix.{front_fits, end_rest}
use Rattle.std.proofs.lemmas.List.{append_assoc, append-nil, length-append, length-drop, take-append-drop}
use Rattle.script.specs.declared.calls.Call.{Call}
use Rattle.script.specs.declared.calls.Call.TheVariants.{Load, Decide, Write, Forget}
use Rattle.script.specs.declared.calls.ChooserKind.{ChooserKind}
use Rattle.script.specs.declared.calls.ChooserKind.TheVariants.{First, Busiest}
use Rattle.script.specs.declared.calls.Make.{Make}
use Rattle.script.specs.declared.calls.MemoKind.{MemoKind}
use Rattle.script.specs.declared.calls.MemoKind.TheVariants.{Blank, Slotted, Keeping}
use Rattle.script.specs.Spelling.{space_bytes, memo_word, chooser_word, make_line, line, body, spelled, spelled_all}
use Rattle.script.specs.Reading.{lacks, unbroken, InRange, NoCall, NoMake, OnLine, NotOnLine, Called}
use Rattle.script.proofs.Breaks.{lacks_append, unbroken_decimal, not_lacking, same_cut}

-- a load that is too long for what follows it is no call
pub no_load : (word follows : List ℕ) (n : ℕ) → n < 2 ^ 64 → word ≡ decimal n → length follows < n → NotOnLine (codes "load " ++ word) follows
no_load word follows n top w long (Load text) rest s =
    let fits = front_fits follows text.now rest s.bodies in
    let same = decimal_injective n (length text.now) top (omega arith) (cc (w, s.heads)) in omega arith
no_load word follows n top w long (Decide a) rest s = let z = ap (λ (bs : List ℕ). get_or bs 0 0) s.heads in omega arith
no_load word follows n top w long (Write b) rest s = let z = ap (λ (bs : List ℕ). get_or bs 0 0) s.heads in omega arith
no_load word follows n top w long Forget rest s = let z = ap (λ (bs : List ℕ). get_or bs 0 0) s.heads in omega arith

-- nor is a decision with an allowance that is too large
pub no_decide : (word follows : List ℕ) (n : ℕ) → n < 2 ^ 64 → word ≡ decimal n → 2 ^ 32 ≤ n → NotOnLine (codes "decide " ++ word) follows
no_decide word follows n top w much (Decide a) rest s = let same = decimal_injective n a top (omega arith) (cc (w, s.heads)) in omega arith
no_decide word follows n top w much (Load text) rest s = let z = ap (λ (bs : List ℕ). get_or bs 0 0) s.heads in omega arith
no_decide word follows n top w much (Write b) rest s = let z = ap (λ (bs : List ℕ). get_or bs 0 0) s.heads in omega arith
no_decide word follows n top w much Forget rest s = let z = ap (λ (bs : List ℕ). get_or bs 0 0) s.heads in omega arith

-- nor a write into a space that is too large
pub no_write : (word follows : List ℕ) (n : ℕ) → n < 2 ^ 64 → word ≡ decimal n → 65536 < n → NotOnLine (codes "write " ++ word) follows
no_write word follows n top w much (Write b) rest s = let same = decimal_injective n (space_bytes b) top (omega arith) (cc (w, s.heads)) in omega arith
no_write word follows n top w much (Load text) rest s = let z = ap (λ (bs : List ℕ). get_or bs 0 0) s.heads in omega arith
no_write word follows n top w much (Decide a) rest s = let z = ap (λ (bs : List ℕ). get_or bs 0 0) s.heads in omega arith
no_write word follows n top w much Forget rest s = let z = ap (λ (bs : List ℕ). get_or bs 0 0) s.heads in omega arith

-- a call's line ends at its end
pub unbroken_line : (c : Call) → InRange c → length (body c) < 2 ^ 64 → unbroken (line c) ≡ true
unbroken_line (Load text) r h = lacks_append 10 (codes "load ") (decimal (length text.now)) refl (unbroken_decimal (length text.now) h)
unbroken_line (Decide a) r h = lacks_append 10 (codes "decide ") (decimal a) refl (unbroken_decimal a (omega arith))
unbroken_line (Write s) r h = lacks_append 10 (codes "write ") (decimal (space_bytes s)) refl (unbroken_decimal (space_bytes s) (omega arith))
unbroken_line Forget r h = refl

-- what follows a call, behind its line and its body
pub spelled_on : (c : Call) (rest : List ℕ) → spelled c ++ rest ≡ line c ++ 10 ∷ (body c ++ rest)
spelled_on c rest = append_assoc (line c) (10 ∷ body c) rest

-- nothing is spelled where nothing stands
pub no_more : (text : List ℕ) → length text ≡ 0 → NoCall text
no_more text h c rest r e =
    let l = ap length (e ∙ spelled_on c rest) ∙ length-append (line c) (10 ∷ (body c ++ rest)) in omega arith

-- no call is spelled where no line ends
pub no_line : (text : List ℕ) → unbroken text ≡ true → NoCall text
no_line text u c rest r e = not_lacking 10 (line c) (body c ++ rest) (sym (ap unbroken (e ∙ spelled_on c rest)) ∙ u)

-- no call is spelled if none has the first line
pub no_call : (text head follows : List ℕ) → length text < 2 ^ 64 → unbroken head ≡ true → text ≡ head ++ 10 ∷ follows → NotOnLine head follows → NoCall text
no_call text head follows top u cut none c rest r e =
    let l = ap length (e ∙ spelled_on c rest) ∙ length-append (line c) (10 ∷ (body c ++ rest)) in
    let m = length-append (body c) rest in
    let s = same_cut 10 head follows (line c) (body c ++ rest) u (unbroken_line c r (omega arith)) (sym cut ∙ e ∙ spelled_on c rest) in
    none c rest (record { range = r; heads = s.0; bodies = s.1 })

-- a call on the line at a place is spelled there
spells : (text head follows : List ℕ) (c : Call) (rest : List ℕ) → text ≡ head ++ 10 ∷ follows → OnLine head follows c rest → text ≡ spelled c ++ rest
spells text head follows c rest cut s =
    cut ∙ ap (λ (bs : List ℕ). bs ++ 10 ∷ follows) s.heads ∙ ap (λ (bs : List ℕ). line c ++ 10 ∷ bs) s.bodies ∙ sym (spelled_on c rest)

-- what follows the call is the end of the script
pub called : (script : List ℕ) (at : ℕ) (head follows : List ℕ) (c : Call) (rest : List ℕ) → at ≤ length script → drop at script ≡ head ++ 10 ∷ follows → OnLine head follows c rest → (length rest ≤ length script) × Called script at c (length script - length rest)
called script at head follows c rest h cut s =
    let e = spells (drop at script) head follows c rest cut s in
    let whole : script ≡ (take at script ++ spelled c) ++ rest = sym (take-append-drop at script) ∙ ap (λ (bs : List ℕ). take at script ++ bs) e ∙ sym (append_assoc (take at script) (spelled c) rest) in
    let d = end_rest script rest (take at script ++ spelled c) whole in
    let l = ap length e ∙ length-append (spelled c) rest in
    let k = length-append (line c) (10 ∷ body c) in
    let m = length-drop at script in (
      omega arith,
      record { range = s.range; onward = omega arith; within = omega arith; spells = e ∙ ap (λ (bs : List ℕ). spelled c ++ bs) (sym d) },
    )

-- no first line names a memo that is none
pub no_memo : (line words memo chooser : List ℕ) → line ≡ codes "session " ++ words → lacks 32 memo ≡ true → words ≡ memo ++ 32 ∷ chooser → ((k : MemoKind) → memo ≡ memo_word k → ⊥) → (m : Make) → line ≡ make_line m → ⊥
no_memo line words memo chooser s l w none m e = none m.memo (same_cut 32 memo chooser (memo_word m.memo) (chooser_word m.chooser) l (one_word m.memo) (cc (s, w, e))).0
  where
    one_word : (k : MemoKind) → lacks 32 (memo_word k) ≡ true
    one_word Blank = refl
    one_word Slotted = refl
    one_word Keeping = refl

unbroken_memo : (k : MemoKind) → unbroken (memo_word k) ≡ true
unbroken_memo Blank = refl
unbroken_memo Slotted = refl
unbroken_memo Keeping = refl

unbroken_chooser : (k : ChooserKind) → unbroken (32 ∷ chooser_word k) ≡ true
unbroken_chooser First = refl
unbroken_chooser Busiest = refl

unbroken_make : (m : Make) → unbroken (make_line m) ≡ true
unbroken_make m =
    lacks_append 10 (codes "session " ++ memo_word m.memo) (32 ∷ chooser_word m.chooser)
    (lacks_append 10 (codes "session ") (memo_word m.memo) refl (unbroken_memo m.memo)) (unbroken_chooser m.chooser)

-- no first line is spelled if the line at the front is none
pub no_make : (text head follows : List ℕ) → unbroken head ≡ true → text ≡ head ++ 10 ∷ follows → ((m : Make) → head ≡ make_line m → ⊥) → NoMake text
no_make text head follows u cut none m rest e =
    none m (same_cut 10 head follows (make_line m) rest u (unbroken_make m) (sym cut ∙ e ∙ append_assoc (make_line m) (10 ∷ []) rest)).0

-- one call more is spelled behind the others
spelled_push : (cs : List Call) (c : Call) → spelled_all (cs ++ c ∷ []) ≡ spelled_all cs ++ spelled c
spelled_push [] c = append-nil (spelled c)
spelled_push (d ∷ cs) c = ap (λ (bs : List ℕ). spelled d ++ bs) (spelled_push cs c) ∙ sym (append_assoc (spelled d) (spelled_all cs) (spelled c))

-- the same of calls that are in range, at a list that is known to be the longer one
pub one_more : (cs ks : List Call) (c : Call) (text here next : List ℕ) → ks ≡ cs ++ c ∷ [] → AllByRecursion InRange cs → InRange c → text ≡ spelled_all cs ++ here → here ≡ spelled c ++ next → AllByRecursion InRange ks × (text ≡ spelled_all ks ++ next)
one_more cs ks c text here next k rs r p q =
    let more = p ∙ ap (λ (bs : List ℕ). spelled_all cs ++ bs) q ∙ sym (append_assoc (spelled_all cs) (spelled c) next) ∙ ap (λ (bs : List ℕ). bs ++ next) (sym (spelled_push cs c)) in
    (subst (AllByRecursion InRange) (sym k) (All-push InRange cs c rs r), more ∙ ap (λ (ds : List Call). spelled_all ds ++ next) (sym k))
