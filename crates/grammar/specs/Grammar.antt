-- The grammar in its own words: of what an admitted script is made.
use Rattle.std.specs.Prelude.{◌≡◌, ℕ, ◌+◌, ◌^◌, ◌<◌, ◌≤◌, true, cond, List, [], ◌∷◌, ◌++◌, map, length, decimal, MatchResult, ◌≢◌}
use Rattle.std.specs.List.{AllByRecursion, join_with_byte}
use Rattle.rules.specs.declared.call.Call.{Call}
use Rattle.rules.specs.declared.call.Call.TheVariants.{Queue, Delay, Advance, Start, Sleep, Wake, Finish, Cancel, Limit, Flush, Collect, Close}
use Rattle.rules.specs.Format.{verb_text, verb_of}
use Rattle.rules.specs.Sizes.{sizes_fit, within}
use Rattle.grammar.specs.declared.head.Head.{Head}
use Rattle.rules.specs.declared.head.HeadVerb.TheVariants.{Engine, Policy, Store}
use Rattle.grammar.specs.declared.numbered.NumberedCall.{NumberedCall}
use Rattle.grammar.specs.Text.{skipped}
use Rattle.rules.specs.Format.{head_text, policy_text, store_text}
use Rattle.grammar.specs.Reading.{read_script}

-- P holds of each
abbrev pub All : {A : Type 0} → (A → Type 0) → List A → Type 0
All P xs = AllByRecursion P xs

-- the byte b stands nowhere in the text
abbrev pub Lacks : ℕ → List ℕ → Type 0
Lacks b text = All (λ c. c ≢ b) text

-- lines, each closed by byte 10
abbrev pub closed : List (List ℕ) → List ℕ
closed [] = []
closed (l ∷ ls) = l ++ (10 ∷ closed ls)

-- what is left behind the last byte 10 is a line of its own, if anything is left
abbrev pub unclosed : List ℕ → List (List ℕ)
unclosed [] = []
unclosed (c ∷ cs) = (c ∷ cs) ∷ []

-- the script is cut into the lines ls at its bytes 10
pub record Lined (script : List ℕ) (ls : List (List ℕ)) : Type 0 where
  pub ended : List (List ℕ)
  pub left : List ℕ
  pub is : script ≡ closed ended ++ left
  pub ends : All (Lacks 10) ended
  pub lacks : Lacks 10 left
  pub whole : ls ≡ ended ++ unclosed left

-- words with one space between each and the next
abbrev pub spaced : List (List ℕ) → List ℕ
spaced ws = join_with_byte 32 ws

-- the numbers of a call
abbrev pub numbers_of : Call → List ℕ
numbers_of (Queue work pool) = work ∷ pool ∷ []
numbers_of (Delay work pool ticks) = work ∷ pool ∷ ticks ∷ []
numbers_of (Advance tick) = tick ∷ []
numbers_of (Start pool) = pool ∷ []
numbers_of (Sleep work) = work ∷ []
numbers_of (Wake work) = work ∷ []
numbers_of (Finish work) = work ∷ []
numbers_of (Cancel work) = work ∷ []
numbers_of (Limit pool limit) = pool ∷ limit ∷ []
numbers_of Flush = []
numbers_of (Collect place) = place ∷ []
numbers_of Close = []

-- a call is written as its verb and the decimals of its numbers
abbrev pub written : Call → List ℕ
written c = spaced (verb_text (verb_of c) ∷ map decimal (numbers_of c))

-- the three lines of a head
abbrev pub engine_line : Head → List ℕ
engine_line h = spaced (head_text Engine ∷ decimal h.sizes.works ∷ decimal h.sizes.pools ∷ decimal h.sizes.places ∷ [])

abbrev pub policy_line : Head → List ℕ
policy_line h = spaced (head_text Policy ∷ policy_text h.policy ∷ decimal h.cap ∷ [])

abbrev pub store_line : Head → List ℕ
store_line h = spaced (head_text Store ∷ store_text h.store ∷ [])

-- the lines that are not skipped, with their numbers, from the number n on
abbrev pub kept : ℕ → List (List ℕ) → List (ℕ × List ℕ)
kept n [] = []
kept n (l ∷ ls) = cond (skipped l) (kept (n + 1) ls) ((n, l) ∷ kept (n + 1) ls)

-- the script is short enough and so are its lines, and those that are not skipped are the head's three and then the calls
pub record Admitted (script : List ℕ) (head : Head) (calls : List NumberedCall) : Type 0 where
  pub short : length script ≤ 32768
  pub ls : List (List ℕ)
  pub lined : Lined script ls
  pub narrow : All (λ l. length l ≤ 80) ls
  pub first : ℕ
  pub second : ℕ
  pub third : ℕ
  pub says : kept 1 ls ≡ (first, engine_line head) ∷ (second, policy_line head) ∷ (third, store_line head) ∷ map (λ c. (c.line, written c.call)) calls
  pub sizes : sizes_fit head.sizes.works head.sizes.pools head.sizes.places ≡ true
  pub cap : within 1 255 head.cap ≡ true
  pub numbers : All (λ c. All (λ n. n < 2 ^ 32) (numbers_of c.call)) calls

-- the reader admits a script as a head and calls exactly if it is made of them
abbrev pub Exactly : List ℕ → Type 0
Exactly script =
    MatchResult (read_script script) (λ r. Admitted script r.0 r.1) (λ _. (h : Head) (cs : List NumberedCall) → Admitted script h cs → ⊥)
