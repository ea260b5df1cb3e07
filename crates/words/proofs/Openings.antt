-- The scan of a whole text gives the words as they are declared, and no others.
use Rattle.std.proofs.Common.{◌≡◌, ℕ, ◌+◌, true, List, [], ◌∷◌, ◌++◌, length, Some, None, Option, sym, refl, ap, ◌∙◌, subst, add-zero, arith}
use Rattle.std.proofs.lemmas.Bool.Decides.{nat_tests}
use Rattle.std.specs.List.{AllByRecursion}
use Rattle.words.specs.Words.Kind.{Space, Ink}
use Rattle.words.specs.declared.scanner.Line.{Line}
use Rattle.words.specs.declared.scanner.Line.TheVariants.{Start, Blank, Comment}
use Rattle.words.specs.Words.{kind, onward, begin, Token, scan}
use Rattle.words.specs.Words.Mode.{ahead, gap as gapped}
use Rattle.words.specs.Split.{Words}
use Rattle.words.specs.Split.Words.{comment, last_comment, blank, last_blank, body}
use Rattle.words.proofs.Bytes.{Byte, byte}
use Rattle.words.proofs.Bytes.Byte.{at_line_end, at_space, at_c, at_other}
use Rattle.words.proofs.Splits.{at_kind, exist, unique}

-- a line of spaces so far
abbrev Bare : Line → Type 0
Bare l = l ≡ Comment → ⊥

onto : (l : Line) (off b : ℕ) (bs : List ℕ) (o : Option Line) → onward l b ≡ o → scan (ahead l) off (b ∷ bs) ≡ scan (begin o off b) (off + 1) bs
onto l off b bs o e = ap (λ (u : Option Line). scan (begin u off b) (off + 1) bs) e

on_line_end : (l : Line) → onward l 10 ≡ Some Start
on_line_end Start = refl
on_line_end Blank = refl
on_line_end Comment = refl

on_space : (l : Line) → Bare l → onward l 32 ≡ Some Blank
on_space Start h = refl
on_space Blank h = refl
on_space Comment h = absurd (h refl)

in_comment : (b : ℕ) → (b ≡ 10 → ⊥) → onward Comment b ≡ Some Comment
in_comment b h = grind (arith, nat_tests)

blank_bare : Bare Blank
blank_bare e = cc

start_bare : Bare Start
start_bare e = cc

-- a comment up to its line end, or to the text's end
past_comment : (off : ℕ) (line rest : List ℕ) → AllByRecursion (λ b. b ≡ 10 → ⊥) line → scan (ahead Comment) off (line ++ 10 ∷ rest) ≡ scan (ahead Start) (off + length line + 1) rest
past_comment off [] rest h = ap (λ (n : ℕ). scan (ahead Start) (n + 1) rest) (sym (add-zero off))
past_comment off (b ∷ line) rest h = onto Comment off b (line ++ 10 ∷ rest) (Some Comment) (in_comment b h.0) ∙ past_comment (off + 1) line rest h.1 ∙ ap (λ (n : ℕ). scan (ahead Start) n rest) (omega arith)

comment_ends : (off : ℕ) (line : List ℕ) → AllByRecursion (λ b. b ≡ 10 → ⊥) line → scan (ahead Comment) off line ≡ []
comment_ends off [] h = refl
comment_ends off (b ∷ line) h = onto Comment off b line (Some Comment) (in_comment b h.0) ∙ comment_ends (off + 1) line h.1

-- spaces up to a line end, or to the text's end
past_blank : (l : Line) → Bare l → (off : ℕ) (spaces rest : List ℕ) → AllByRecursion (λ b. b ≡ 32) spaces → scan (ahead l) off (spaces ++ 10 ∷ rest) ≡ scan (ahead Start) (off + length spaces + 1) rest
past_blank l bare off [] rest h = onto l off 10 rest (Some Start) (on_line_end l) ∙ ap (λ (n : ℕ). scan (ahead Start) (n + 1) rest) (sym (add-zero off))
past_blank l bare off (b ∷ spaces) rest h = onto l off b (spaces ++ 10 ∷ rest) (Some Blank) (ap (onward l) h.0 ∙ on_space l bare) ∙ past_blank Blank blank_bare (off + 1) spaces rest h.1 ∙ ap (λ (n : ℕ). scan (ahead Start) n rest) (omega arith)

blank_ends : (l : Line) → Bare l → (off : ℕ) (spaces : List ℕ) → AllByRecursion (λ b. b ≡ 32) spaces → scan (ahead l) off spaces ≡ []
blank_ends l bare off [] h = refl
blank_ends l bare off (b ∷ spaces) h = onto l off b spaces (Some Blank) (ap (onward l) h.0 ∙ on_space l bare) ∙ blank_ends Blank blank_bare (off + 1) spaces h.1

-- a word begins the body: with a blank before it, or with another byte than c
begins : (l : Line) → Bare l → (b : ℕ) → kind b ≡ Ink → (l ≡ Start → b ≡ 99 → ⊥) → onward l b ≡ None
begins Start bare b e h = let n : b ≡ 99 → ⊥ = h refl in grind (arith, nat_tests)
begins Blank bare b e h = grind (arith, nat_tests)
begins Comment bare b e h = absurd (bare refl)

in_body : (l : Line) → Bare l → (off : ℕ) (spaces : List ℕ) (b : ℕ) (rest : List ℕ) → AllByRecursion (λ b. b ≡ 32) spaces → kind b ≡ Ink → (l ≡ Start → length spaces ≡ 0 → b ≡ 99 → ⊥) → scan (ahead l) off (spaces ++ b ∷ rest) ≡ scan (gapped true) off (spaces ++ b ∷ rest)
in_body l bare off [] b rest h ink other = onto l off b rest None (begins l bare b ink (λ e. other e refl)) ∙ sym (at_kind (gapped true) off b rest Ink ink)
in_body l bare off (s ∷ spaces) b rest h ink other =
    onto l off s (spaces ++ b ∷ rest) (Some Blank) (ap (onward l) h.0 ∙ on_space l bare)
    ∙ in_body Blank blank_bare (off + 1) spaces b rest h.1 ink (λ e. cc)
    ∙ sym (at_kind (gapped true) off s (spaces ++ b ∷ rest) Space (ap kind h.0))

pub only : {off : ℕ} {text : List ℕ} {ws : List Token} → Words off text ws → ws ≡ scan (ahead Start) off text
only (comment {off} line rest h later) = only later ∙ sym (past_comment (off + 1) line rest h)
only (last_comment {off} {line} h) = sym (comment_ends (off + 1) line h)
only (blank {off} spaces rest h later) = only later ∙ sym (past_blank Start start_bare off spaces rest h)
only (last_blank {off} {spaces} h) = sym (blank_ends Start start_bare off spaces h)
only (body {off} spaces b rest h ink other runs) = unique runs ∙ sym (in_body Start start_bare off spaces b rest h ink (λ _. other))

abbrev Found : List ℕ → Type 0
Found bs = (off : ℕ) → Words off bs (scan (ahead Start) off bs)

-- what a text is after spaces at the start of a line
data Spaced : List ℕ → Type 0 where
  bare : {spaces : List ℕ} → AllByRecursion (λ b. b ≡ 32) spaces → Spaced spaces
  ended : (spaces rest : List ℕ) → AllByRecursion (λ b. b ≡ 32) spaces → Found rest → Spaced (spaces ++ 10 ∷ rest)
  inked : (spaces : List ℕ) (b : ℕ) (rest : List ℕ) → AllByRecursion (λ b. b ≡ 32) spaces → kind b ≡ Ink → Spaced (spaces ++ b ∷ rest)

-- and within a comment
data Remarked : List ℕ → Type 0 where
  open_ended : {line : List ℕ} → AllByRecursion (λ b. b ≡ 10 → ⊥) line → Remarked line
  ended : (line rest : List ℕ) → AllByRecursion (λ b. b ≡ 10 → ⊥) line → Found rest → Remarked (line ++ 10 ∷ rest)

more_spaces : {bs : List ℕ} → Spaced bs → Spaced (32 ∷ bs)
more_spaces (bare {spaces} h) = bare (refl, h)
more_spaces (ended spaces rest h later) = ended (32 ∷ spaces) rest (refl, h) later
more_spaces (inked spaces b rest h ink) = inked (32 ∷ spaces) b rest (refl, h) ink

more_remark : {bs : List ℕ} (b : ℕ) → (b ≡ 10 → ⊥) → Remarked bs → Remarked (b ∷ bs)
more_remark b n (open_ended h) = open_ended (n, h)
more_remark b n (ended line rest h later) = ended (b ∷ line) rest (n, h) later

found_blank : (spaces rest : List ℕ) → AllByRecursion (λ b. b ≡ 32) spaces → Found rest → Found (spaces ++ 10 ∷ rest)
found_blank spaces rest h later off = subst (Words off (spaces ++ 10 ∷ rest)) (sym (past_blank Start start_bare off spaces rest h)) (blank spaces rest h (later (off + length spaces + 1)))

found_body : (spaces : List ℕ) (b : ℕ) (rest : List ℕ) → AllByRecursion (λ b. b ≡ 32) spaces → kind b ≡ Ink → (length spaces ≡ 0 → b ≡ 99 → ⊥) → Found (spaces ++ b ∷ rest)
found_body spaces b rest h ink other off = subst (Words off (spaces ++ b ∷ rest)) (sym (in_body Start start_bare off spaces b rest h ink (λ _. other))) (body spaces b rest h ink other (exist (spaces ++ b ∷ rest) off true))

found_spaced : {bs : List ℕ} → Spaced bs → Found (32 ∷ bs)
found_spaced (bare {spaces} h) off = subst (Words off (32 ∷ spaces)) (sym (blank_ends Start start_bare off (32 ∷ spaces) (refl, h))) (last_blank (refl, h))
found_spaced (ended spaces rest h later) off = found_blank (32 ∷ spaces) rest (refl, h) later off
found_spaced (inked spaces b rest h ink) off = found_body (32 ∷ spaces) b rest (refl, h) ink (λ e. absurd (omega arith)) off

found_remarked : {bs : List ℕ} → Remarked bs → Found (99 ∷ bs)
found_remarked (open_ended {line} h) off = subst (Words off (99 ∷ line)) (sym (comment_ends (off + 1) line h)) (last_comment h)
found_remarked (ended line rest h later) off = subst (Words off (99 ∷ line ++ 10 ∷ rest)) (sym (past_comment (off + 1) line rest h)) (comment line rest h (later (off + 1 + length line + 1)))

found : (bs : List ℕ) → Found bs × Spaced bs × Remarked bs
found [] = (λ off. last_blank tt, bare tt, open_ended tt)
found (b ∷ bs) = on (byte b) (found bs)
  where
    on : {b : ℕ} → Byte b → Found bs × Spaced bs × Remarked bs → Found (b ∷ bs) × Spaced (b ∷ bs) × Remarked (b ∷ bs)
    on at_line_end ih = (found_blank [] bs tt ih.0, ended [] bs tt ih.0, ended [] bs tt ih.0)
    on at_space ih = (found_spaced ih.1, more_spaces ih.1, more_remark 32 (λ e. omega arith) ih.2)
    on at_c ih = (found_remarked ih.2, inked [] 99 bs tt refl, more_remark 99 (λ e. omega arith) ih.2)
    on (at_other {b} ink l c) ih = (found_body [] b bs tt ink (λ _. c), inked [] b bs tt ink, more_remark b l ih.2)

pub are : (text : List ℕ) → Words 0 text (scan (ahead Start) 0 text)
are text = (found text).0 0
