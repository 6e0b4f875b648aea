-- What the code's class stands for.
use Rattle.pm_class.specs.declared.class.Class.{Class as LentClass}
use Rattle.pm_elab.specs.Classes.{Class}

-- the class that the code's reference leads to
abbrev pub class_of : LentClass → Class
class_of c = record { class = c.class; lines = c.lines.now }
