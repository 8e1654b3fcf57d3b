-- The number or the word of every case, exactly as scripts and reports have it.
use Rattle.std.specs.Prelude.{ℕ, List, [], ◌∷◌, codes, Option}
use Rattle.rules.specs.Names.{first_named}
use Rattle.rules.specs.declared.call.Verb.{Verb}
use Rattle.rules.specs.declared.call.Verb.TheVariants as verb
use Rattle.rules.specs.declared.call.Call.{Call}
use Rattle.rules.specs.declared.call.Call.TheVariants as call
use Rattle.rules.specs.declared.refusal.Refusal.{Refusal}
use Rattle.rules.specs.declared.refusal.Refusal.TheVariants.{Shut, NoSuchWork, NoSuchPool, AlreadyWaiting, DueTooLate, StoreFull, TickInPast, NothingToStart, NotPermitted, NotAwake, NotAsleep, NotWaiting, LimitOutOfRange, NoFreePlace, NoTicketOut, TicketNotReady, StillBusy, SizeOutOfRange, CapOutOfRange}
use Rattle.rules.specs.declared.fault.FaultKind.{FaultKind}
use Rattle.rules.specs.declared.fault.FaultKind.TheVariants.{ScriptTooLong, LineTooLong, UnknownVerb, WordCount, BadWord, BufferFull, Refused}
use Rattle.rules.specs.declared.head.HeadVerb.{HeadVerb}
use Rattle.rules.specs.declared.head.HeadVerb.TheVariants as head
use Rattle.rules.specs.declared.head.PolicyName.{PolicyName}
use Rattle.rules.specs.declared.head.PolicyName.TheVariants as policy
use Rattle.rules.specs.declared.head.StoreName.{StoreName}
use Rattle.rules.specs.declared.head.StoreName.TheVariants as store
use Rattle.rules.specs.declared.word.Word.{Word}
use Rattle.rules.specs.declared.word.Word.TheVariants as word
use Rattle.rules.specs.declared.answer.Line.{Line}
use Rattle.rules.specs.declared.answer.Line.TheVariants as line
use Rattle.rules.specs.declared.answer.Waited.{Waited}
use Rattle.rules.specs.declared.answer.Waited.TheVariants as waited
use Rattle.rules.specs.declared.answer.Promise.{Promise}
use Rattle.rules.specs.declared.answer.Promise.TheVariants as promise

-- the number of a refusal
abbrev pub refusal_number : Refusal → ℕ
refusal_number Shut = 1
refusal_number NoSuchWork = 2
refusal_number NoSuchPool = 3
refusal_number AlreadyWaiting = 4
refusal_number DueTooLate = 5
refusal_number StoreFull = 6
refusal_number TickInPast = 7
refusal_number NothingToStart = 8
refusal_number NotPermitted = 9
refusal_number NotAwake = 10
refusal_number NotAsleep = 11
refusal_number NotWaiting = 12
refusal_number LimitOutOfRange = 13
refusal_number NoFreePlace = 14
refusal_number NoTicketOut = 15
refusal_number TicketNotReady = 16
refusal_number StillBusy = 17
refusal_number SizeOutOfRange = 18
refusal_number CapOutOfRange = 19

-- the number of a fault; one that carries a refusal has the refusal's
abbrev pub fault_number : FaultKind → ℕ
fault_number ScriptTooLong = 31
fault_number LineTooLong = 32
fault_number UnknownVerb = 33
fault_number WordCount = 34
fault_number BadWord = 35
fault_number BufferFull = 36
fault_number (Refused r) = refusal_number r

-- the word of a verb
abbrev pub verb_text : Verb → List ℕ
verb_text verb.Queue = codes "queue"
verb_text verb.Delay = codes "delay"
verb_text verb.Advance = codes "advance"
verb_text verb.Start = codes "start"
verb_text verb.Sleep = codes "sleep"
verb_text verb.Wake = codes "wake"
verb_text verb.Finish = codes "finish"
verb_text verb.Cancel = codes "cancel"
verb_text verb.Limit = codes "limit"
verb_text verb.Flush = codes "flush"
verb_text verb.Collect = codes "collect"
verb_text verb.Close = codes "close"

-- the verbs, in the order in which reports list them
abbrev pub verbs : List Verb
verbs =
    verb.Queue
    ∷ verb.Delay
    ∷ verb.Advance
    ∷ verb.Start
    ∷ verb.Sleep
    ∷ verb.Wake
    ∷ verb.Finish
    ∷ verb.Cancel
    ∷ verb.Limit
    ∷ verb.Flush
    ∷ verb.Collect
    ∷ verb.Close
    ∷ []

-- the place of a verb among the verbs
abbrev pub verb_index : Verb → ℕ
verb_index verb.Queue = 0
verb_index verb.Delay = 1
verb_index verb.Advance = 2
verb_index verb.Start = 3
verb_index verb.Sleep = 4
verb_index verb.Wake = 5
verb_index verb.Finish = 6
verb_index verb.Cancel = 7
verb_index verb.Limit = 8
verb_index verb.Flush = 9
verb_index verb.Collect = 10
verb_index verb.Close = 11

-- the verb that a word names
abbrev pub verb_named : List ℕ → Option Verb
verb_named w = first_named verb_text verbs w

-- the verb of a call
abbrev pub verb_of : Call → Verb
verb_of (call.Queue work pool) = verb.Queue
verb_of (call.Delay work pool ticks) = verb.Delay
verb_of (call.Advance tick) = verb.Advance
verb_of (call.Start pool) = verb.Start
verb_of (call.Sleep work) = verb.Sleep
verb_of (call.Wake work) = verb.Wake
verb_of (call.Finish work) = verb.Finish
verb_of (call.Cancel work) = verb.Cancel
verb_of (call.Limit pool limit) = verb.Limit
verb_of call.Flush = verb.Flush
verb_of (call.Collect place) = verb.Collect
verb_of call.Close = verb.Close

-- the verb of a head line
abbrev pub head_text : HeadVerb → List ℕ
head_text head.Engine = codes "engine"
head_text head.Policy = codes "policy"
head_text head.Store = codes "store"

-- the name of a policy
abbrev pub policy_text : PolicyName → List ℕ
policy_text policy.Free = codes "free"
policy_text policy.Percpu = codes "percpu"
policy_text policy.Ranked = codes "ranked"

-- the policies, in the order in which they are searched
abbrev pub policies : List PolicyName
policies = policy.Free ∷ policy.Percpu ∷ policy.Ranked ∷ []

-- the policy that a word names
abbrev pub policy_named : List ℕ → Option PolicyName
policy_named w = first_named policy_text policies w

-- the name of a delay store
abbrev pub store_text : StoreName → List ℕ
store_text store.Heap = codes "heap"
store_text store.Wheel = codes "wheel"

-- the delay stores, in the order in which they are searched
abbrev pub stores : List StoreName
stores = store.Heap ∷ store.Wheel ∷ []

-- the delay store that a word names
abbrev pub store_named : List ℕ → Option StoreName
store_named w = first_named store_text stores w

-- the other words of a report
abbrev pub word_text : Word → List ℕ
word_text word.Idle = codes "idle"
word_text word.Delayed = codes "delayed"
word_text word.Held = codes "held"
word_text word.Queued = codes "queued"
word_text word.Ready = codes "ready"
word_text word.Waiting = codes "waiting"
word_text word.Ok = codes "ok"
word_text word.No = codes "no"
word_text word.Over = codes "over"
word_text word.End = codes "end"
word_text word.Fault = codes "fault"

-- the words in which answers are told: of a line of a pool
abbrev pub line_word : Line → Word
line_word line.Held = word.Held
line_word line.Queued = word.Queued

-- of what a cancelled work was
abbrev pub waited_word : Waited → Word
waited_word waited.Delayed = word.Delayed
waited_word waited.Held = word.Held
waited_word waited.Queued = word.Queued

-- of a ticket
abbrev pub promise_word : Promise → Word
promise_word promise.Ready = word.Ready
promise_word promise.Waiting = word.Waiting
