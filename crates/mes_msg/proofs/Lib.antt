mod TextLaw
