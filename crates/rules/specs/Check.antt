-- Check: the manifest that an envelope holds, or the first fault (01, What a manifest may hold; Refusal numbers): 'Check reads depth first,
-- left to right; the first fault met counts, at its item's first byte; on one item the lowest number.' 'A count that no good item has .. is
-- met at the head, before the contents'.
use Rattle.std.specs.Prelude.{◌+◌, ◌-◌, ◌*◌, ◌/◌, ◌%◌, ◌∷◌, ◌++◌}
use Rattle.rules.specs.Base.{ℕ, zero, suc, List, [], map, Bool, cond, not, Option, some, none, ltb, leb, eqb, length}
use Rattle.rules.specs.Base.{EnvelopeTooLong, NotCbor, Malformed, WrongVersion, RepeatedIdentifier, UnknownCommand, UnknownParameter, NotAllowed}
use Rattle.rules.specs.Base.{NoSuchComponent, TooDeep, TooManyCommands, Parameter, Coerce, Uri, Source, Digest, Size}
use Rattle.rules.specs.Limits.{limits}
use Rattle.rules.specs.Bytes.{Bytes, part, Span, span, bytes_at, member}
use Rattle.rules.specs.Got.{Got, refused, got, need, found, ◌>>=◌}
use Rattle.rules.specs.Cbor.{NUMBER, BYTES, TEXT, ARRAY, MAP, FALSE, TRUE, NIL, after, item, one_of}
use Rattle.rules.specs.Commands.{Params, over, or_else, Form, sixteen, nil, below, alternatives, parameters, sequence, COMMON, PAYLOAD_FETCH, RUN, commands, row_of, is_allowed, params, param_of}
use Rattle.rules.specs.Manifest.{Seq, end, then, Cmd, one, sub, try, Alts, last, or, count, count_cmd, Section, count_all, Manifest}

-- a reader: from the container's end and a place to a value and the place after it. The container is the innermost byte string around,
-- or the envelope
abbrev pub Read : Type 0 → Type 0
Read A = ℕ → ℕ → Got (A × ℕ)

-- what a set or override command gives
pub record Given : Type 0 where
  pub coerce : Option Bool
  pub params : Params

-- coerce, URI, source, digest, size
abbrev pub give : Option Bool → Option Bytes → Option ℕ → Option Bytes → Option ℕ → Given
give c u k d n = record { coerce = c; params = record { uri = u; source = k; digest = d; size = n } }

abbrev pub nothing : Given
nothing = give none none none none none

-- what v gives, and what g gives beside it
abbrev pub over_given : Given → Given → Given
over_given v g = record { coerce = or_else v.coerce g.coerce; params = over v.params g.params }

-- 02, T-01: 'each command of common now weighs as many as the manifest map's head promises sections (entries less 3, at least 1)'
abbrev pub common_weight : ℕ → ℕ
common_weight entries = cond (leb entries 3) 1 (entries - 3)

module _ (s : Bytes) where
  -- an unsigned number
  unfoldable pub number : Read ℕ
  number e at = do
    h ← item NUMBER 0 limits.largest s e at
    got (h.num, h.next)

  -- a key, which is k; the place after it. 'A key out of order or standing for a required one, at that key'
  unfoldable pub key : ℕ → ℕ → ℕ → Got ℕ
  key k e at = do
    h ← item NUMBER k k s e at
    got h.next

  -- one thing in a byte string, and the place of the string's bytes. 'Left-over bytes: the first of them'
  unfoldable pub in_bytes : {A : Type 0} → Read A → ℕ → ℕ → Got (A × Span)
  in_bytes read e at = do
    h ← item BYTES 0 limits.largest s e at
    (a, next) ← read (after h) h.next
    _ ← need (eqb next (after h)) NotCbor next
    got (a, span h.next next)

  -- n byte strings; the place after them
  unfoldable pub strings : ℕ → ℕ → ℕ → Got ℕ
  strings zero e at = got at
  strings (suc n) e at = do
    h ← item BYTES 0 limits.largest s e at
    strings n e (after h)

  -- an identifier, after those of `before`: 'an array of 1 to 4 byte strings, at most 32 bytes as encoded. No identifier twice'.
  -- 'Identifier length, then 68, are tested once the identifier is read, at its head'
  unfoldable pub identifier : List Span → ℕ → ℕ → Got Span
  identifier before e at = do
    h ← item ARRAY 1 limits.parts s e at
    next ← strings h.num e h.next
    let id = span at next
    _ ← need (leb (next - at) limits.identifier) Malformed at
    _ ← need (not (member (bytes_at s id) (map (bytes_at s) before))) RepeatedIdentifier at
    got id

  -- n identifiers more
  unfoldable pub identifiers : ℕ → List Span → Read (List Span)
  identifiers zero before e at = got (before, at)
  identifiers (suc n) before e at = do
    id ← identifier before e at
    identifiers n (before ++ (id ∷ [])) e id.to

  -- 'List: array of 1 to 8 identifiers'
  unfoldable pub components : Read (List Span)
  components e at = do
    h ← item ARRAY 1 limits.components s e at
    identifiers h.num [] e h.next

  -- a parameter's value, in a manifest of n components: 'coerce (boolean)', 'URI (text, 1 to 96 bytes, not examined)', 'source (number
  -- below component count)', 'digest (32 bytes)', 'size (number)'. 72: 'index or source not below the count'
  unfoldable pub parameter : ℕ → Parameter → Read Given
  parameter n Coerce e at = do
    h ← one_of FALSE TRUE s e at
    got (give (some (eqb h.kind TRUE)) none none none none, h.next)
  parameter n Uri e at = do
    h ← item TEXT 1 limits.uri s e at
    got (give none (some (part s h.next h.num)) none none none, after h)
  parameter n Source e at = do
    (k, next) ← number e at
    _ ← need (ltb k n) NoSuchComponent at
    got (give none none (some k) none none, next)
  parameter n Digest e at = do
    h ← item BYTES limits.digest limits.digest s e at
    got (give none none none (some (part s h.next limits.digest)) none, after h)
  parameter n Size e at = do
    (k, next) ← number e at
    got (give none none none none (some k), next)

  -- k entries more, whose keys are at least `low`, after those of `g`: 'ascending'; 70: 'parameter not listed'
  unfoldable pub entries : ℕ → ℕ → ℕ → Given → Read Given
  entries n zero low g e at = got (g, at)
  entries n (suc k) low g e at = do
    (name, p) ← number e at
    _ ← need (leb low name) Malformed at
    what ← found (param_of name params) UnknownParameter at
    (v, q) ← parameter n what e p
    entries n k (name + 1) (over_given v g) e q

  -- k + 1 'sequences, each in a byte string', after commands that weigh m; `deeper` reads a sequence, whose commands weigh w each
  unfoldable pub alternatives_at : (ℕ → Read Seq) → ℕ → ℕ → ℕ → Read Alts
  alternatives_at deeper w zero m e at = do
    (a, p) ← in_bytes (deeper m) e at
    got (last a, p.to)
  alternatives_at deeper w (suc k) m e at = do
    (a, p) ← in_bytes (deeper m) e at
    (rest, q) ← alternatives_at deeper w k (m + w * count a) e p.to
    got (or a rest, q)

  -- the argument at `at` of the command whose code is at `place`: the command table's column Argument. Commands weigh m up to here, and
  -- each that the argument holds weighs w. 72: 'index or source not below the count'
  unfoldable pub argument : (ℕ → Read Seq) → ℕ → ℕ → ℕ → ℕ → Form → Read Cmd
  argument deeper n w m place (sixteen op) e at = do
    h ← item BYTES limits.class limits.class s e at
    got (one place (op (part s h.next limits.class)) none, after h)
  argument deeper n w m place (nil op) e at = do
    h ← item NIL 0 0 s e at
    got (one place op none, h.next)
  argument deeper n w m place (below op) e at = do
    (k, next) ← number e at
    _ ← need (ltb k n) NoSuchComponent at
    got (one place (op k) none, next)
  argument deeper n w m place alternatives e at = do
    h ← item ARRAY 1 limits.alternatives s e at
    (a, next) ← alternatives_at deeper w (h.num - 1) m e h.next
    got (try a, next)
  argument deeper n w m place (parameters op) e at = do
    h ← item MAP 1 limits.parameters s e at
    (g, next) ← entries n h.num 0 nothing e h.next
    got (one place (op g.params) g.coerce, next)
  argument deeper n w m place sequence e at = do
    (a, p) ← in_bytes (deeper m) e at
    got (sub a, p.to)

  -- 'code, argument', of weight w, after commands that weigh m. On the code 69 'not listed', 71 'command not allowed there', and 74 'at the
  -- code that takes the sum past 256' (02, T-01)
  unfoldable pub command : (ℕ → Read Seq) → ℕ → ℕ → ℕ → ℕ → Read Cmd
  command deeper n section w m e at = do
    (c, p) ← number e at
    row ← found (row_of c commands) UnknownCommand at
    _ ← need (is_allowed section row.allowed) NotAllowed at
    _ ← need (leb (m + w) limits.commands) TooManyCommands at
    argument deeper n w (m + w) at row.form e p

  -- k commands
  unfoldable pub commands_at : (ℕ → Read Seq) → ℕ → ℕ → ℕ → ℕ → ℕ → Read Seq
  commands_at deeper n section w zero m e at = got (end, at)
  commands_at deeper n section w (suc k) m e at = do
    (c, p) ← command deeper n section w m e at
    (cs, q) ← commands_at deeper n section w k (m + w * count_cmd c) e p
    got (then c cs, q)

  -- a sequence of a section, whose commands weigh w each, after commands that weigh m: 'array of 2n items, n 0 to 64: code, argument, and so
  -- on', an odd count 'met at the head'. It and those in it may be d deep: '73 is at the deep sequence's array head'
  unfoldable pub sequence_at : ℕ → ℕ → ℕ → ℕ → ℕ → Read Seq
  sequence_at n section w zero m e at = do
    h ← item ARRAY 0 (limits.sequence + limits.sequence) s e at
    _ ← need (eqb (h.num % 2) 0) Malformed at
    refused TooDeep at
  sequence_at n section w (suc d) m e at = do
    h ← item ARRAY 0 (limits.sequence + limits.sequence) s e at
    _ ← need (eqb (h.num % 2) 0) Malformed at
    commands_at (sequence_at n section w d) n section w (h.num / 2) m e h.next

  -- a section under `k`: 'a sequence in a byte string'; 'common or section is depth 1' of 4
  unfoldable pub section_at : ℕ → ℕ → ℕ → ℕ → Read Section
  section_at n k w m e at = do
    (a, p) ← in_bytes (sequence_at n k w limits.depth m) e at
    got (record { key = k; place = p; seq = a }, p.to)

  -- common's own, of which k entries are left: 'optional key 4 a sequence in a byte string'
  unfoldable pub common_seq : ℕ → ℕ → ℕ → Read (List Section)
  common_seq n w zero e at = got ([], at)
  common_seq n w (suc k) e at = do
    p ← key 4 e at
    (x, next) ← section_at n COMMON w 0 e p
    got (x ∷ [], next)

  -- 'Common: map, key 2 the component list in a byte string, optional key 4 a sequence'; its count is '1 or 2'
  unfoldable pub common_at : ℕ → Read (List Span × List Section)
  common_at w e at = do
    h ← item MAP 1 2 s e at
    p ← key 2 e h.next
    (ids, q) ← in_bytes components e p
    (xs, next) ← common_seq (length ids) w (h.num - 1) e q.to
    got ((ids, xs), next)

  -- k sections more, whose keys are at least `low`, after commands that weigh m; theirs weigh 1 each: 'keys ascending', 'optional 8 payload
  -- fetch, 9 install, 10 validate, 11 load, 12 run'
  unfoldable pub sections_at : ℕ → ℕ → ℕ → ℕ → Read (List Section)
  sections_at n zero low m e at = got ([], at)
  sections_at n (suc k) low m e at = do
    h ← item NUMBER low RUN s e at
    (x, p) ← section_at n h.num 1 m e h.next
    (xs, q) ← sections_at n k (h.num + 1) (m + count x.seq) e p
    got (x ∷ xs, q)

  -- 'common in a byte string', and its place
  unfoldable pub common_in : ℕ → ℕ → ℕ → Got ((List Span × List Section) × Span)
  common_in w e at = in_bytes (common_at w) e at

  -- '1 version, is 1', else 67: the place after it
  unfoldable pub version_at : ℕ → ℕ → Got ℕ
  version_at e at = do
    p ← key 1 e at
    (version, next) ← number e p
    _ ← need (eqb version 1) WrongVersion p
    got next

  -- '2 sequence number; 3 common': the number, and the place after the key of common
  unfoldable pub numbered_at : Read ℕ
  numbered_at e at = do
    p ← key 2 e at
    (n, q) ← number e p
    next ← key COMMON e q
    got (n, next)

  -- 'Manifest: map, keys ascending', '3 to 8 entries', up to common: how many entries it has, and its sequence number
  unfoldable pub front_at : Read (ℕ × ℕ)
  front_at e at = do
    h ← item MAP 3 8 s e at
    p ← version_at e h.next
    (n, next) ← numbered_at e p
    got ((h.num, n), next)

  -- the whole manifest: the commands of common's sequence weigh before those of the sections
  unfoldable pub manifest_at : Read Manifest
  manifest_at e at = do
    ((k, n), p) ← front_at e at
    let w = common_weight k
    ((ids, xs), common) ← common_in w e p
    (ys, next) ← sections_at (length ids) (k - 3) PAYLOAD_FETCH (w * count_all xs) e common.to
    got (record { part = span at next; number = n; ids = ids; common = common; sections = xs ++ ys }, next)

  -- 'nil or a byte string (unread)'; the place after it
  unfoldable pub unread : ℕ → ℕ → Got ℕ
  unread e at = do
    h ← one_of NIL BYTES s e at
    got (after h)

  -- 'map of 2, key 1 nil or a byte string (unread), key 3 the manifest in a byte string': up to that byte string, and its place
  unfoldable pub outer_at : ℕ → Got ℕ
  outer_at e = do
    h ← item MAP 2 2 s e 0
    p ← key 1 e h.next
    q ← unread e p
    key 3 e q

  -- 'Envelope, at most 4,096 bytes': '64 has place 0'. 'Left-over bytes: the first of them'
  unfoldable pub check : Got Manifest
  check = do
    let e = length s
    _ ← need (leb e limits.envelope) EnvelopeTooLong 0
    p ← outer_at e
    (m, place) ← in_bytes manifest_at e p
    _ ← need (eqb place.to e) NotCbor place.to
    got m
