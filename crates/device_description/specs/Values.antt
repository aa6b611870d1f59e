-- What a line says of a value, as the code hands it on; none where the line is not understood.
use Rattle.std.specs.Prelude.{Bool, true, false, cond, Option, Some, None, option_map}
use Rattle.rules.specs.Bytes.{Bytes, same}
use Rattle.rules.specs.Limits.{limits}
use Rattle.text.specs.Text.{ascii}
use Rattle.device_text.specs.Words.{decimal, bytes, is_bytes}
use Rattle.device_description.specs.Scenario.{with_verdict, with_vendor, with_class, with_number, with_event}
use Rattle.device_description.specs.declared.Scenario.{Scenario}

-- on, by the one word; off, by the other
abbrev pub flag_if : Bool → Bool → Option Bool
flag_if first second = cond first (Some true) (cond second (Some false) None)

-- a vendor or a class
abbrev pub name_of : Bytes → Option Bytes
name_of t = cond (is_bytes limits.class t) (Some (bytes t)) None

-- the value that a line sets, by the word in front
unfoldable pub set : Scenario → Bytes → Bytes → Option Scenario
set d w t =
    cond (same w (ascii "verdict")) (option_map (λ x. with_verdict x d) (flag_if (same t (ascii "good")) (same t (ascii "bad"))))
    (cond (same w (ascii "vendor")) (option_map (λ x. with_vendor x d) (name_of t))
    (cond (same w (ascii "class")) (option_map (λ x. with_class x d) (name_of t))
    (cond (same w (ascii "number")) (option_map (λ x. with_number x d) (decimal t))
    (cond (same w (ascii "event")) (option_map (λ x. with_event x d) (flag_if (same t (ascii "open")) (same t (ascii "closed"))))
    None))))
