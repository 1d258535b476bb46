-- The kinds as code has them.
use Rattle.std.specs.Prelude.{ℕ, ◌*◌, ◌<◌, ◌≤◌, ◌≡◌, ◌≢◌, List, Result, MatchResult}
use Rattle.runfile.specs.declared.bad_file.BadFile.{BadFile}
use Rattle.runfile.specs.declared.bad_file.BadFile.TheVariants.{UnknownKind}
use Rattle.runfile.specs.declared.bodies.Kind.{Kind}
use Rattle.runfile.specs.declared.bodies.Kind.TheVariants.{Create, Operate, SetValue, Remove, Signal, Exit, Query, OperateWithin, Clock, SetAll, ReadAll, ActAs}
use Rattle.runfile.specs.Body.{create_kind, operate_kind, set_value_kind, remove_kind, signal_kind, exit_kind, query_kind, operate_within_kind, clock_kind, set_all_kind, read_all_kind, act_as_kind, fixed_of, each_of, kind_in, number_in, size_in}

-- the number of each
abbrev pub number_of : Kind → ℕ
number_of Create = create_kind
number_of Operate = operate_kind
number_of SetValue = set_value_kind
number_of Remove = remove_kind
number_of Signal = signal_kind
number_of Exit = exit_kind
number_of Query = query_kind
number_of OperateWithin = operate_within_kind
number_of Clock = clock_kind
number_of SetAll = set_all_kind
number_of ReadAll = read_all_kind
number_of ActAs = act_as_kind

-- no kind has this number
abbrev pub IsNoKind : ℕ → Type 0
IsNoKind number = (kind : Kind) → number_of kind ≢ number

-- the kind with a number, or that there is none
abbrev pub Names : ℕ → Result Kind BadFile → Type 0
Names number r = MatchResult r (λ kind. number_of kind ≡ number) (λ e. (e ≡ UnknownKind) × IsNoKind number)

-- the bytes of a body before its operations or values, and of all of these; or that there is no such kind
abbrev pub PartsOrNone : List ℕ → Result (ℕ × ℕ) BadFile → Type 0
PartsOrNone body r =
    MatchResult r
    (λ parts. (parts.0 ≡ fixed_of (kind_in body)) × (parts.1 ≡ each_of (kind_in body) * number_in body) × (0 < parts.0) × (parts.0 ≤ 12) × (parts.1 < 2048))
    (λ e. (e ≡ UnknownKind) × IsNoKind (kind_in body))

-- the bytes that are due to a body, or that there is no such kind
abbrev pub SizeOrNone : List ℕ → Result ℕ BadFile → Type 0
SizeOrNone body r = MatchResult r (λ size. (size ≡ size_in body) × (0 < size)) (λ e. (e ≡ UnknownKind) × (size_in body ≡ 0))
