-- Places as the emitters hold them.
use Rattle.pli_typing.specs.TypedTree as Y
use Rattle.pli_coding.specs.Assembly.{NumberWord, StaticStorage}
use Rattle.pli_coding.specs.Locating as L
use Rattle.rv_address.specs.declared.names.NamePlace.{NamePlace}
use Rattle.rv_address.specs.declared.names.NamePlace.TheVariants as N
use Rattle.rv_address.specs.declared.names.NumberPlace.{NumberPlace}
use Rattle.rv_address.specs.declared.names.NumberPlace.TheVariants as K
use Rattle.rv_address.specs.declared.names.Located.{Located}
use Rattle.rv_address.specs.declared.transfer.Address.{Address}

abbrev pub name_of : NamePlace → L.NamePlace
name_of (N.Frame level place) = L.FrameName level place
name_of (N.List level place) = L.ListName level place
name_of (N.Static block index bytes) = L.DataName (StaticStorage block index bytes)
name_of (N.InStatic block index bytes place) = L.NameInData (StaticStorage block index bytes) place

abbrev pub number_of : NumberPlace → L.NumberPlace
number_of (K.Known n) = L.KnownNumber n
number_of (K.Frame level place) = L.FrameNumber level place
number_of (K.List level place) = L.ListNumber level place
number_of (K.Word block index) = L.DataNumber (NumberWord block index)

abbrev pub located_of : Located → L.Located
located_of l = record { name = name_of l.name; number = number_of l.number }

abbrev pub address_of : Address → L.Address
address_of a = record { register = a.register; displacement = a.displacement }

-- the place of what waits in words is that of no variable
abbrev pub no_variable : Y.Variable
no_variable = record { class = Y.ControlledClass; block = 0; level = 0; index = 0 }
