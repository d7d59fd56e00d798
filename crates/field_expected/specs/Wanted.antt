-- Rules 5.5 to 5.7: what each side's field may hold, and in which order.
use Rattle.std.specs.Prelude.{Bool, true, false, ◌&&◌, not, ℕ, eqb, ltb}
use Rattle.std.specs.Prelude.{if◌then◌else◌}
use Rattle.field_expected.specs.declared.Need.{Need}
use Rattle.field_expected.specs.declared.Need.TheVariants.{Must, May, MustNot}
use Rattle.field_expected.specs.declared.Second.{Second}
use Rattle.field_expected.specs.declared.Second.TheVariants.{Le, Status}
use Rattle.field_expected.specs.declared.Wanted.{Wanted}

-- ---- the tags: encrypted data, Le, status word, MAC

abbrev pub tag87 : ℕ
tag87 = 0x87

abbrev pub tag97 : ℕ
tag97 = 0x97

abbrev pub tag99 : ℕ
tag99 = 0x99

abbrev pub tag_8e : ℕ
tag_8e = 0x8E

-- ---- what a field may hold

abbrev pub may : Need → Bool
may Must = true
may May = true
may MustNot = false

-- whether an object that must be there isn't
abbrev pub lacks : Need → Bool → Bool
lacks Must there = not there
lacks May there = false
lacks MustNot there = false

-- the second object's tag and need
abbrev pub tag_of : Second → ℕ
tag_of (Le need) = tag97
tag_of (Status sw1 sw2) = tag99

abbrev pub need_of : Second → Need
need_of (Le need) = need
need_of (Status sw1 sw2) = Must

-- the place of a tag in the side's list, from 1; 0 for a tag that isn't in it
unfoldable pub rank : Second → ℕ → ℕ
rank second tag =
    if eqb tag tag87 then 1 else
    (if eqb tag (tag_of second) then 2 else
    (if eqb tag tag_8e then 3 else 0))

-- whether the tag may stand after an object at place r (0: none): it is in the list, later than that, and not unwanted
unfoldable pub allowed : Wanted → ℕ → ℕ → Bool
allowed w r tag =
    ltb r (rank w.second tag)
    && (if eqb tag tag87 then may w.«data» else (if eqb tag tag_8e then true else may (need_of w.second)))

-- whether an object may be there, or be absent
abbrev pub suits : Need → Bool → Bool
suits Must there = there
suits May there = true
suits MustNot there = not there
