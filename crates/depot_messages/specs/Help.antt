-- What the depot tool says of itself.
use Rattle.std.specs.Prelude.{◌++◌}
use Rattle.text.specs.Text.{Bytes, ascii}

unfoldable pub version_text : Bytes
version_text = ascii "depot 0.7.0\n"

unfoldable pub help_text : Bytes
help_text =
    ascii "usage: depot check FILE\n"
    ++ ascii "       depot show FILE\n"
    ++ ascii "       depot newer FILE FILE\n"
    ++ ascii "       depot translate install|boot FILE OUT\n"
    ++ ascii "       depot list PROGRAM\n"
    ++ ascii "       depot run install|boot FILE DEVICE [--then OUT]\n"
    ++ ascii "       depot run-program PROGRAM DEVICE [--then OUT]\n"
    ++ ascii "       depot batch FILE\n"
    ++ ascii "       depot help\n"
    ++ ascii "       depot --version\n"
    ++ ascii "\n"
    ++ ascii "FILE is an envelope, PROGRAM a program, DEVICE a device description; - is standard input.\n"
    ++ ascii "OUT is a new file, never written over; - is standard output, and the report goes to standard error.\n"
    ++ ascii "--then writes the device and slots after a run as a device description.\n"
    ++ ascii "A batch has a command on each line, without the word depot.\n"
    ++ ascii "With --status before the command the last line on standard error is its status:\n"
    ++ ascii "0 done, 1 refused or a run that did not end well, 2 usage or file.\n"
